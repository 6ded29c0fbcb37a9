use Prim.Native.Nat.{ℕ, ◌+◌, ◌≤◌, ◌<◌}
use mathlib.Core.Path.{◌≡◌}
use lib.ListN.{length, get_or}
use Rattle.model.specs.Records.{records_of}
use Rattle.model.specs.Rules.{row_of}
use Rattle.model.specs.Format.{most_rows}
use Rattle.model.specs.Clauses.{StartsAt}
use Rattle.rows.proofs.find_starts.Given as goal

abbrev pub invariant-loop-k : goal.invariant-loop-k
invariant-loop-k l = (l.rows ≤ most_rows) × (length l.starts ≡ most_rows + 1) × (l.at ≤ records_of l.model)
    × ((j : ℕ) → j < l.at → row_of l.model l.n.symbols j < l.k) × ((e : ℕ) → e < l.k → StartsAt l.model l.n.symbols e (get_or l.starts e 0))
