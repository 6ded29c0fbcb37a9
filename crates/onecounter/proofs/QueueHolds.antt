-- The queue is a machine and has uppers by (19): the theorems' hypotheses can be had.
use Prim.Native.Nat.{ℕ, zero, suc, ◌*◌, ◌≤◌, ◌<◌}
use mathlib.Core.Path.{◌≡◌, refl}
use lib.Dec.{eqb, ltb, lit≤}
use borrow.Author.Tests.{ltb-true}
use Rattle.walks.specs.Sums.{bit, sum, sum_to}
use Rattle.walks.proofs.Lists.{all_to_lem, at_rows, in_every}
use Rattle.ppda.specs.Units.{weight_unit, chance_unit, sum_unit}
use Rattle.onecounter.specs.Moves.{IsMachine}
use Rattle.onecounter.specs.Equation.{Matrix, coefficient, passage_side}
use Rattle.onecounter.specs.Promised.{PassageUpper}
use Rattle.onecounter.specs.Edges.{queue}
use Rattle.onecounter.proofs.Promised.{uppers_by_19}

pub is_machine : IsMachine 2 queue
unfolding sum
is_machine = record {
  from_state = λ e i. ltb-true e.from 2 (in_every (λ e. ltb e.from 2) queue refl e i);
  to_state = λ e i. ltb-true e.to 2 (in_every (λ e. ltb e.to 2) queue refl e i);
  some_weight = λ e i. ltb-true 0 e.weight (in_every (λ e. ltb 0 e.weight) queue refl e i);
  state_sum = all_to_lem (λ u. sum (λ e. bit (eqb e.from u) * e.weight) queue ≡ weight_unit) 2 ((tt, refl), refl);
}

-- 3/4, 3/8, 1/4 and 7/8. The chances are near 0.678, 0.322, 0.192 and 0.808.
abbrev pub queue_uppers : Matrix
queue_uppers zero zero = 786432
queue_uppers zero (suc v) = 393216
queue_uppers (suc u) zero = 262144
queue_uppers (suc u) (suc v) = 917504

pub uppers_hold : (u v : ℕ) → u < 2 → v < 2 → PassageUpper queue u v (queue_uppers u v)
unfolding passage_side coefficient sum_to sum
uppers_hold =
    uppers_by_19 is_machine queue_uppers
    (at_rows 2 2 (λ u v. passage_side queue 2 chance_unit queue_uppers u v ≤ queue_uppers u v * sum_unit)
    ((tt, ((tt, lit≤ tt), lit≤ tt)), ((tt, lit≤ tt), lit≤ tt)))
