use Prim.Native.Nat.{ℕ, ◌<◌}
use mathlib.Core.Path.{◌≡◌}
use lib.ListN.{length, get_or}
use Rattle.walks.specs.Order.{entries_in}
use Rattle.gaps.proofs.Differences.{gap_by}
use Rattle.gaps.proofs.gaps_with.Given as goal

abbrev pub invariant-loop-e : goal.invariant-loop-e
invariant-loop-e l = (l.e-end ≡ entries_in l.n.states l.n.symbols) × (length l.at_entry-items ≡ l.e-end)
    × ((i : ℕ) → i < l.e → get_or l.at_entry-items i 0 ≡ gap_by l.model l.n l.uppers i)
