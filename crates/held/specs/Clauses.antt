-- Lists that the code fills, and the blocks that it fills them from.
use Rattle.std.specs.Prelude.{ℕ, ◌*◌, ◌≤◌, ◌<◌, List, ◌≡◌, length, get_or}
use Rattle.walks.specs.Order.{rows_in, entries_in, by_exit}
use Rattle.ppda.specs.Equations.{Vector, Same, entries}
use Rattle.model.specs.declared.sizes.Sizes.{Sizes}
use Rattle.model.specs.Format.{most_entries}
use Rattle.model.specs.Clauses.{Fits}
use Rattle.delivery.specs.Records.{value_at}
use Rattle.delivery.specs.Numbers.{uppers_of}
use Rattle.delivery.specs.Clauses.{HasRecords}
use Rattle.held.specs.Held.{padded}

-- The list has the values of the first n records of d, and 0 from there on.
pub record Values (d : List ℕ) (n : ℕ) (l : List ℕ) : Type 0 where
  pub size : length l ≡ most_entries
  pub value : (e : ℕ) → e < n → get_or l e 0 ≡ value_at d e
  pub none : (e : ℕ) → n ≤ e → get_or l e 0 ≡ 0

-- The list has the marks v of the entries, in the order of files, and 0 from there on.
pub record Marks (s g : ℕ) (v : Vector) (l : List ℕ) : Type 0 where
  pub size : length l ≡ most_entries
  pub marks : Same s g (entries s g l) v
  pub none : (e : ℕ) → entries_in s g ≤ e → get_or l e 0 ≡ 0

-- The block has a record for each entry of a model of these sizes, which fit.
pub record HasEntries (n : Sizes) (d : List ℕ) : Type 0 where
  pub fits : Fits n.states n.symbols
  pub whole : HasRecords (entries_in n.states n.symbols) d

-- The values of the entries with the exits before q, by exit, and 0 from there on.
abbrev pub exits_to : Sizes → List ℕ → ℕ → List ℕ
exits_to n d q = padded (by_exit n.states n.symbols (uppers_of n.states n.symbols d)) (q * rows_in n.states n.symbols)
