-- Equation (19) is the model's equation: each move adds its weight to one coefficient, that of its shift and of the state to which it goes.
use Prim.Native.Nat.{ℕ, ◌+◌, ◌*◌, ◌<◌}
use native.Mathlib.Nat.{mul_comm}
use native.Mathlib.Omega.{arith}
use mathlib.Core.Path.{◌≡◌, refl, sym, ap₂, ◌∙◌}
use mathlib.Core.Bool.{Bool, true, false, ◌&&◌}
use mathlib.Core.List.{List}
use lib.Dec.{eqb}
use Rattle.walks.specs.Sums.{bit, sum, sum_to, In}
use Rattle.walks.proofs.Sums.{sum_cong, sum_add, sum_mul, sum_to_cong, sum_to_pick, sum_swap}
use Rattle.ppda.specs.Equations.{Vector, through, f}
use Rattle.onecounter.specs.Moves.{Shift, down, level, up, shift_number, Move}
use Rattle.onecounter.specs.Pushing.{push_for, rules_for}
use Rattle.onecounter.specs.Equation.{coefficient, passage_side}
use Rattle.onecounter.proofs.Models.{row_of_moves}

-- What a move from u that shifts by t adds, for a number k: weight times k.
abbrev adds : ℕ → Shift → Move → ℕ → ℕ
adds u t e k = bit (eqb e.from u) * (e.weight * (bit (eqb (shift_number e.shift) (shift_number t)) * k))

module _ (m : List Move) (u : ℕ) (t : Shift) where
  -- A coefficient times k, by moves.
  coefficient_times : (w k : ℕ) → coefficient m t u w * k ≡ sum (λ e. bit (eqb e.to w) * adds u t e k) m
  unfolding coefficient
  coefficient_times w k =
      mul_comm _ k ∙ sym (sum_mul k _ m)
      ∙ sum_cong _ _ m (λ e i. rearranged (eqb e.from u) (eqb e.to w) (eqb (shift_number e.shift) (shift_number t)) e.weight)
    where
      rearranged : (a b c : Bool) (n : ℕ) → k * (bit (a && (b && c)) * n) ≡ bit b * (bit a * (n * (bit c * k)))
      rearranged true true c n = omega arith
      rearranged true false c n = omega arith
      rearranged false true c n = omega arith
      rearranged false false c n = omega arith

  -- Coefficients times numbers, summed over the states to which the moves go.
  coefficients_times : (s : ℕ) (k : ℕ → ℕ) → ((e : Move) → In e m → e.to < s)
      → sum_to (λ w. coefficient m t u w * k w) s ≡ sum (λ e. adds u t e (k e.to)) m
  coefficients_times s k inside =
      sum_to_cong _ _ s (λ w l. coefficient_times w (k w))
      ∙ sum_swap (λ e w. bit (eqb e.to w) * adds u t e (k w)) m s
      ∙ sum_cong _ _ m (λ e i. sum_to_pick (λ w. adds u t e (k w)) e.to s (inside e i))

pub equation_19 : (m : List Move) (s d : ℕ) (x : Vector) (u v : ℕ) → ((e : Move) → In e m → e.to < s)
    → f (rules_for m) s d x u 0 v ≡ passage_side m s d (λ a b. x a 0 b) u v
unfolding f passage_side
equation_19 m s d x u v inside =
    row_of_moves m u _
    ∙ sum_cong _ _ m (λ e i. by_shift (eqb e.from u) e.weight e.to e.shift)
    ∙ sum_add _ _ m ∙ ap₂ ◌+◌ (sum_add _ _ m) refl
    ∙ sym (ap₂ ◌+◌ (ap₂ ◌+◌ (coefficient_times m u down v (d * d)) (coefficients_times m u level s (λ w. d * x w 0 v) inside))
    (coefficients_times m u up s (λ y. sum_to (λ z. x y 0 z * x z 0 v) s) inside))
  where
    if : Shift → Shift → ℕ
    if a t = bit (eqb (shift_number a) (shift_number t))

    -- Of the three, the one of the move's own shift.
    by_shift : (b : Bool) (n w : ℕ) (a : Shift)
        → bit b * (n * through s d x w (push_for a) v)
        ≡ bit (eqb w v) * (bit b * (n * (if a down * (d * d)))) + bit b * (n * (if a level * (d * x w 0 v)))
        + bit b * (n * (if a up * sum_to (λ z. x w 0 z * x z 0 v) s))
    by_shift b n w down = omega arith
    by_shift b n w level = omega arith
    by_shift b n w up = omega arith
