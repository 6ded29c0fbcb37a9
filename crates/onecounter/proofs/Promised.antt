-- What is promised of a model is promised of a machine: first passage is a return chance of the machine's rules, which are a model.
use Prim.Native.Nat.{ℕ, ◌*◌, ◌≤◌, ◌<◌}
use native.Mathlib.Omega.{arith}
use mathlib.Core.Path.{◌≡◌, sym, subst, fun_ext}
use mathlib.Core.List.{List}
use lib.Dec.{lit<}
use Rattle.walks.specs.Sums.{sum_to}
use Rattle.ppda.specs.Units.{chance_unit, sum_unit}
use Rattle.ppda.specs.Equations.{Vector, RowVector}
use Rattle.ppda.specs.Margin.{margin}
use Rattle.ppda.specs.Bounds.{steps_of, AtMostUpper, AtLeastLower, AtMostMean, AtLeastTail, UpperHolds, LowerBy, LowerHolds, MeanHolds, TailHolds, Uppers, Lowers, Means}
use Rattle.ppda.proofs.Upper.{upper_holds}
use Rattle.ppda.proofs.Lower.{lower_holds}
use Rattle.ppda.proofs.Mean.{mean_holds}
use Rattle.ppda.proofs.Bounds.{tail_holds}
use Rattle.onecounter.specs.Moves.{Move, IsMachine}
use Rattle.onecounter.specs.Pushing.{rules_for}
use Rattle.onecounter.specs.Equation.{Matrix, passage_side}
use Rattle.onecounter.specs.Promised.{PassageUpper, PassageLowerBy, PassageLower, PassageMean, PassageTail}
use Rattle.onecounter.proofs.Models.{machine_model}
use Rattle.onecounter.proofs.Passage.{passage_is_chance, moves_are_steps}
use Rattle.onecounter.proofs.Equation.{equation_19}

-- ---- of one entry or row

module _ (m : List Move) (u : ℕ) where
  pub passage_upper : (v a : ℕ) → UpperHolds (rules_for m) u 0 v a → PassageUpper m u v a
  passage_upper v a h n = subst (λ x. AtMostUpper n x a) (sym (passage_is_chance m n u v)) (h n)

  lower_by : (v l a c h : ℕ) → LowerBy (rules_for m) u 0 v l a c h → PassageLowerBy m u v l a c h
  lower_by v l a c h holds k = subst (λ x. AtLeastLower k x l a c h) (sym (passage_is_chance m (steps_of k) u v)) (holds k)

  pub passage_lower : (v l a b : ℕ) → LowerHolds (rules_for m) u 0 v l a b → PassageLower m u v l a b
  passage_lower v l a b h = record { as_shown = lower_by v l a _ _ h.as_shown; above_zero = lower_by v l a _ _ h.above_zero }

  pub passage_mean : (r : ℕ) → MeanHolds (rules_for m) u 0 r → PassageMean m u r
  passage_mean r h n = subst (λ x. AtMostMean n x r) (sym (moves_are_steps m n u)) (h n)

  pub passage_tail : (s r : ℕ) → TailHolds (rules_for m) s u 0 r → PassageTail m s u r
  passage_tail s r h n = subst (λ x. AtLeastTail n (sum_to x s) r) (fun_ext (λ v. sym (passage_is_chance m n u v))) (h n)

-- ---- of a certificate for the machine

module _ {s : ℕ} {m : List Move} (machine : IsMachine s m) where
  module _ (a : Vector) (uppers : Uppers (rules_for m) s 1 a) where
    pub uppers_of_passage : (u v : ℕ) → u < s → v < s → PassageUpper m u v (a u 0 v)
    uppers_of_passage u v hu hv = passage_upper m u v (a u 0 v) (upper_holds (rules_for m) s 1 a (machine_model machine) uppers u 0 v hu (lit< tt) hv)

    pub lowers_of_passage : (l : Vector) → Lowers (rules_for m) s 1 a l
        → (u v : ℕ) → u < s → v < s → PassageLower m u v (l u 0 v) (a u 0 v) (margin (rules_for m) s 1 a)
    lowers_of_passage l lowers u v hu hv =
        passage_lower m u v (l u 0 v) (a u 0 v) _ (lower_holds (rules_for m) s 1 a l (machine_model machine) uppers lowers u 0 v hu (lit< tt) hv)

    pub means_of_passage : (r : RowVector) → Means (rules_for m) s 1 a r → (u : ℕ) → u < s → PassageMean m u (r u 0)
    means_of_passage r means u hu = passage_mean m u (r u 0) (mean_holds (rules_for m) s 1 a r (machine_model machine) uppers means u 0 hu (lit< tt))

    pub tails_of_passage : (r : RowVector) → Means (rules_for m) s 1 a r → (u : ℕ) → u < s → PassageTail m s u (r u 0)
    tails_of_passage r means u hu = passage_tail m u s (r u 0) (tail_holds (rules_for m) s 1 a r (machine_model machine) uppers means u 0 hu (lit< tt))

  -- The uppers by equation (19): x is at least its right side at every pair of states.
  pub uppers_by_19 : (x : Matrix) → ((u v : ℕ) → u < s → v < s → passage_side m s chance_unit x u v ≤ x u v * sum_unit)
      → (u v : ℕ) → u < s → v < s → PassageUpper m u v (x u v)
  uppers_by_19 x above = uppers_of_passage (λ u z v. x u v) uppers
    where
      uppers : Uppers (rules_for m) s 1 (λ u z v. x u v)
      uppers u z v hu hz hv =
          let none : z ≡ 0 = omega arith in
          rw (none, equation_19 m s chance_unit (λ u z v. x u v) u v machine.to_state) (above u v hu hv)
