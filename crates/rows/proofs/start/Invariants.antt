use Prim.Native.Nat.{ℕ, ◌<◌}
use mathlib.Core.Path.{◌≡◌}
use Rattle.model.specs.Records.{records_of}
use Rattle.model.specs.Rules.{row_of}
use Rattle.rows.proofs.start.Given as goal

abbrev pub invariant-loop-at : goal.invariant-loop-at
invariant-loop-at l = (l.end ≡ records_of l.model) × ((j : ℕ) → j < l.at → row_of l.model l.n.symbols j < l.k)
