-- What the tail of request A.7 comes to at its edges: for W it is the request's to the unit; a row from which nobody returns has no figure, since for each some n refutes it;
-- and a tail two steps later, or of one exit alone, would be wrong.
use Prim.Native.Nat.{ℕ, zero, suc, ◌+◌, ◌*◌, ◌^◌, ◌≤◌}
use native.Mathlib.Omega.{arith}
use mathlib.Core.Path.{◌≡◌, refl}
use mathlib.Core.List.{List, [], ◌∷◌, flat_map}
use mathlib.Core.Logic.{◌↔◌}
use lib.Dec.{lit<, lit≤}
use Rattle.walks.specs.Sums.{sum, sum_to}
use Rattle.walks.specs.Lists.{lists}
use Rattle.walks.proofs.Lists.{at_rows, at_entries}
use Rattle.ppda.specs.Rules.{Rule, rule, nothing, one, fits, over_row, IsModel}
use Rattle.ppda.specs.Runs.{after, weigh, over_runs, over_runs_within}
use Rattle.ppda.specs.Chances.{chance, chance_from, chance_by_step, returned_within}
use Rattle.ppda.specs.Equations.{Vector, RowVector, rows, f, mean_side}
use Rattle.ppda.specs.Bounds.{Uppers, Means, AtLeastTail, TailHolds}
use Rattle.ppda.specs.W.{w, w_uppers}
use Rattle.ppda.proofs.Rows.{rules_of_test}
use Rattle.ppda.proofs.Steps.{chance_by_step_lem}
use Rattle.ppda.proofs.Upper.{power_positive, upper_holds}
use Rattle.ppda.proofs.WHolds as WHolds

-- ---- the request's inequality, neither less nor more

-- Of W's runs from row (0, 0), 1/4 have not returned within 1 step, 1/4 within 2 and 3/32 within 3: 1 − r/n is at most the others exactly where r is at least 1 × 1/4,
-- 2 × 1/4 and 3 × 3/32 steps.
pub tail_exactly : (r : ℕ) → (AtLeastTail 1 (returned_within w 2 1 0 0) r ↔ (64 ≤ r)) × (AtLeastTail 2 (returned_within w 2 2 0 0) r ↔ (128 ≤ r))
    × (AtLeastTail 3 (returned_within w 2 3 0 0) r ↔ (72 ≤ r))
unfolding chance_from over_runs_within over_runs sum_to sum lists flat_map after weigh fits
tail_exactly r = ((λ h. omega (arith, h), λ h. omega (arith, h)), (λ h. omega (arith, h), λ h. omega (arith, h)), (λ h. omega (arith, h), λ h. omega (arith, h)))

-- ---- nobody returns: however large a figure is, some n refutes it

-- Document 01's Z to Z.
abbrev pub forever : List Rule
forever = rule 0 0 0 (one 0) 65536 ∷ []

never_back : (n : ℕ) → chance_by_step forever n 0 (0 ∷ []) 0 ≡ 0
unfolding chance_by_step over_row sum fits
never_back zero = refl
never_back (suc n) = rw (never_back n) refl

pub no_figure : (r : ℕ) → TailHolds forever 1 0 0 r → ⊥
unfolding sum_to
no_figure r h = omega (arith, rw (chance_by_step_lem forever (suc r) 0 (0 ∷ []) 0, never_back (suc r)) at (h (suc r)), power_positive (suc r))

-- ---- one exit alone: by the mean of two steps that W is accepted with, 2/3 would return in 0 within 6 steps, and its upper is 0.625

pub not_one_exit : ((n : ℕ) → AtLeastTail n (chance w n 0 0 0) 512) → ⊥
not_one_exit h =
    omega (arith, h 6, upper_holds w 2 1 w_uppers WHolds.is_model_lem (WHolds.is_certificate).uppers 0 0 0 (lit< tt) (lit< tt) (lit< tt) 6)

-- ---- two steps later: every run takes two steps, so that none is back within 1

abbrev pub two_steps : List Rule
two_steps = rule 0 0 0 (one 1) 65536 ∷ rule 0 1 0 nothing 65536 ∷ []

abbrev pub certain : Vector
certain p z q = 2 ^ 20

abbrev pub figures : RowVector
figures = rows 2 (512 ∷ 256 ∷ [])

pub is_model_lem : IsModel 1 2 two_steps
unfolding over_row sum fits
is_model_lem = record { rule = rules_of_test 1 2 two_steps refl; row = at_rows 1 2 (λ p z. over_row two_steps p z (λ r. 1) ≡ 65536) (tt, ((tt, refl), refl)) }

pub uppers : Uppers two_steps 1 2 certain
unfolding f over_row sum fits
uppers = at_entries 1 2 (λ p z q. f two_steps 1 (2 ^ 20) certain p z q ≤ certain p z q * 2 ^ 36) (tt, ((tt, (tt, lit≤ tt)), (tt, lit≤ tt)))

pub means : Means two_steps 1 2 certain figures
unfolding mean_side over_row sum fits
means = at_rows 1 2 (λ p z. mean_side two_steps 1 (2 ^ 20) (2 ^ 8) certain figures p z ≤ figures p z * 2 ^ 36) (tt, ((tt, lit≤ tt), lit≤ tt))

pub not_two_later : ((n : ℕ) → (n + 2) * 2 ^ 8 * 65536 ^ n ≤ (n + 2) * 2 ^ 8 * returned_within two_steps 1 n 0 0 + figures 0 0 * 65536 ^ n) → ⊥
unfolding chance_from over_runs_within over_runs sum_to sum lists flat_map after weigh fits
not_two_later h = omega (arith, h 1)
