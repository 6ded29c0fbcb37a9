use Rattle.std.proofs.Common.{ℕ, ◌≡◌, ◌^◌, ◌≤◌, ◌<◌, ◌*◌}
use Rattle.rows.proofs.Sums.{StateSum}
use Rattle.equations.proofs.sums.sum_over_states.Given as goal

abbrev pub invariant-loop-t : goal.invariant-loop-t
invariant-loop-t g l = (l.sum ≤ l.t * 2 ^ 43) × ((value : ℕ → ℕ) → ((t : ℕ) (r : ℕ) → t < l.states → goal.F-post g l.term t r → r ≡ value t) → StateSum value l.states l.t l.sum)
