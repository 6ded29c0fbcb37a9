-- The name of a filing's file, the change that a filing makes, and the bytes that are kept of a line.
use Rattle.std.specs.Prelude.{ℕ, ◌+◌, false, cond, List, [], ◌≡◌, ltb, length, set}
use Rattle.register.specs.declared.Register.{Register}
use Rattle.register.specs.Questions.{has_model}
use Rattle.register.specs.Merging.{has_delivery}
use Rattle.said.specs.declared.Change.{Change}
use Rattle.said.specs.declared.Change.TheVariants.{Clear, Model, Counter, Delivery, Merge}
use Rattle.said.specs.declared.Said.{Said}
use Rattle.said.specs.Said.{model_word, counter_word, delivery_word, merge_word}
use Rattle.script.specs.declared.Responded.{Responded}
use Rattle.service.specs.declared.Served.{Served}
use Rattle.script.specs.Script.{reads_file}
use Rattle.script.specs.Serving.{kept_bytes}
use Rattle.script.specs.Clauses.{changed_by}

-- Where the name stands in the line: after the word and a space.
abbrev pub name_from : Change → ℕ
name_from Clear = 0
name_from Model = length model_word + 1
name_from Counter = length counter_word + 1
name_from Delivery = length delivery_word + 1
name_from Merge = length merge_word + 1

-- The change was made, with some bytes for the file, and none where it is not read.
pub record Performed (r : Register) (s : Said) (x : Responded) : Type 0 where
  pub file : List ℕ
  pub unread : reads_file (has_model r) (has_delivery r) s ≡ false → file ≡ []
  pub is : x ≡ changed_by r s file

-- How many bytes are kept of a line with one byte more, and where it lies.
abbrev pub kept_count : ℕ → ℕ
kept_count k = cond (ltb k kept_bytes) (k + 1) k

abbrev pub kept_line : List ℕ → ℕ → ℕ → List ℕ
kept_line line k b = cond (ltb k kept_bytes) (set line k b) line

-- What serving gives, from its parts.
abbrev pub served_of : Register → List ℕ → ℕ → ℕ → ℕ → Served
served_of r line k n o = record { desk = record { register = r; line = line; kept = k }; taken = n; printed = o }
