-- What a printout holds, and the lines of entries as the code walks through them.
use Rattle.std.specs.Prelude.{ℕ, ◌+◌, ◌*◌, ◌≤◌, List, ◌≡◌, length, take}
use Rattle.outcome.specs.Reasons.{number_of}
use Rattle.ppda.specs.Equations.{entries}
use Rattle.model.specs.declared.sizes.Sizes.{Sizes}
use Rattle.model.specs.Format.{most_rows, most_entries}
use Rattle.register.specs.declared.Register.{Register}
use Rattle.register.specs.Filing.{cleared, file_model}
use Rattle.history.specs.Run.{reply_of}
use Rattle.lines.specs.Lines.{refused_line}
use Rattle.lines.specs.Clauses.{table_room, margin_room, chance_room, steps_room}
use Rattle.report.specs.declared.Printout.{Printout}
use Rattle.report.specs.Printed.{chance_lines, lines_by}
use Rattle.outcome.specs.declared.Refusal.{Refusal}
use Rattle.outcome.specs.Outcomes.{Accepted}

-- The bytes of a buffer: no report has more lines, nor longer ones.
abbrev pub room : ℕ
room = table_room + margin_room + most_entries * chance_room + most_rows * steps_room

-- The first `length` bytes are the text. What stands beyond them is free.
pub record HoldsText (r : Printout) (text : List ℕ) : Type 0 where
  pub size : length r.bytes ≡ room
  pub fits : r.length ≤ room
  pub holds : take r.length r.bytes ≡ text

-- The lines of the live entries by a register's answers, with u − f(u) by the list in file order.
abbrev pub chances_by : Register → List ℕ → ℕ → ℕ → List ℕ
chances_by r l s g = chance_lines (reply_of r) (entries s g l) s g

-- All lines by a register's answers, with the number of records and the same list.
abbrev pub lines_with : Register → ℕ → List ℕ → Sizes → List ℕ
lines_with r records l n = lines_by (reply_of r) records (entries n.states n.symbols l) n.states n.symbols

-- ---- filings

-- The line of a refusal.
abbrev pub line_of : Refusal → List ℕ
line_of why = refused_line (number_of why.reason) why.place why.shortfall

-- The register after the model b was filed in an empty one and accepted.
pub record HoldsModel (r : Register) (b : List ℕ) : Type 0 where
  pub holding : r ≡ (file_model cleared b).register
  pub accepted : (file_model cleared b).outcome ≡ Accepted
