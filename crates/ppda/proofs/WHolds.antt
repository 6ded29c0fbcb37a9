-- W is a model, its bounds are a certificate and (1, 0, 0) is dead: the theorems' hypotheses can be had.
use Prim.Native.Nat.{ℕ, ◌+◌, ◌*◌, ◌^◌, ◌≤◌, ◌<◌}
use native.Mathlib.Nat.{not-le_of_lt, not-suc-le-zero}
use native.Mathlib.Omega.{arith}
use mathlib.Core.Path.{◌≡◌, refl}
use mathlib.Core.Bool.{true}
use mathlib.Core.List.{[], ◌∷◌, flat_map}
use lib.Dec.{lit<, lit≤}
use Rattle.walks.specs.Sums.{sum, sum_to, sign}
use Rattle.ppda.specs.Units.{most_chance}
use Rattle.ppda.specs.Rules.{fits, over_row, IsModel}
use Rattle.walks.specs.Lists.{lists}
use Rattle.ppda.specs.Runs.{after, weigh, over_runs, over_runs_within}
use Rattle.ppda.specs.Chances.{mean, counted, chance_from}
use Rattle.ppda.specs.Equations.{Vector, RowVector, rows, f, mean_side}
use Rattle.ppda.specs.Live.{Live, mark, is_live, alive}
use Rattle.ppda.specs.Bounds.{LowerAt, Means, Certificate, UpperHolds, LowerHolds, MeanHolds, steps_of}
use Rattle.ppda.specs.W.{w, w_uppers, w_lowers, w_means}
use Rattle.ppda.proofs.Rows.{rules_of_test}
use Rattle.walks.proofs.Lists.{at_rows, at_entries}
use Rattle.ppda.proofs.Marks.{is_live_lem, is_dead}
use Rattle.ppda.proofs.Live.{live_by_rounds}

pub is_model_lem : IsModel 2 1 w
unfolding over_row sum fits
is_model_lem =
    record { rule = rules_of_test 2 1 w refl; row = at_rows 2 1 (λ p z. over_row w p z (λ r. 1) ≡ 65536) ((tt, (tt, refl)), (tt, refl)) }

-- (1, 0, 0) is dead: no run from it ends so.
pub dead : Live w 1 0 0 → ⊥
unfolding is_live alive mark sign f over_row sum fits sum_to
dead h = not-suc-le-zero ((is_live_lem (alive w 2 1 1 0 0)).0 ((live_by_rounds w 2 1 is_model_lem 1 0 0 (lit< tt) (lit< tt) (lit< tt)).1 h))

live_at_lem : (p z q : ℕ) → is_live (alive w 2 1 p z q) ≡ true → w_lowers p z q * 2 ^ 36 ≤ f w 2 (2 ^ 20) w_lowers p z q → w_lowers p z q ≤ w_uppers p z q
    → w_uppers p z q ≤ most_chance → f w 2 (2 ^ 20) w_uppers p z q < w_uppers p z q * 2 ^ 36 → LowerAt w 2 1 w_uppers w_lowers p z q
live_at_lem p z q live a b c d =
    record { lower = a; below = b; range = c; strict = λ e. d; dead = λ e. absurd (not-suc-le-zero (rw (is_dead _ e) at ((is_live_lem _).0 live))) }

pub is_certificate : Certificate w 2 1 w_uppers w_lowers w_means
unfolding is_live alive mark sign f mean_side over_row sum fits sum_to
is_certificate = record {
  uppers = at_entries 2 1 (λ p z q. f w 2 (2 ^ 20) w_uppers p z q ≤ w_uppers p z q * 2 ^ 36)
      ((tt, (tt, ((tt, lit≤ tt), lit≤ tt))), (tt, ((tt, lit≤ tt), lit≤ tt)));
  lowers = at_entries 2 1 (LowerAt w 2 1 w_uppers w_lowers) (
    (tt, (tt, ((tt, live_at_lem 0 0 0 refl (lit≤ tt) (lit≤ tt) (lit≤ tt) (lit< tt)), live_at_lem 0 0 1 refl (lit≤ tt) (lit≤ tt) (lit≤ tt) (lit< tt)))),
    (tt, ((tt, dead_at_lem), live_at_lem 1 0 1 refl (lit≤ tt) (lit≤ tt) (lit≤ tt) (lit< tt))),
  );
  means = at_rows 2 1 (λ p z. mean_side w 2 (2 ^ 20) (2 ^ 8) w_uppers w_means p z ≤ w_means p z * 2 ^ 36) ((tt, (tt, lit≤ tt)), (tt, lit≤ tt));
}
  where
    dead_at_lem : LowerAt w 2 1 w_uppers w_lowers 1 0 0
    dead_at_lem = record { lower = lit≤ tt; below = lit≤ tt; range = lit≤ tt; strict = λ e. absurd (not-suc-le-zero ((is_live_lem 0).0 e)); dead = λ e. refl }

-- Why mean steps are weighed by the uppers. 342/256 of a step for row (0, 0) is less than the mean counted to 3. Weighed by lowers of 0 it would
-- pass, and by the uppers no certificate has it.
abbrev pub too_low : RowVector
too_low = rows 1 (342 ∷ 256 ∷ [])

pub below_the_mean : too_low 0 0 * 65536 ^ 3 < mean w 3 0 0 * 2 ^ 8
unfolding counted over_runs_within over_runs sum_to sum lists flat_map after weigh fits
below_the_mean = lit< tt

pub passes_by_lowers : Means w 2 1 (λ p z q. 0) too_low
unfolding mean_side over_row sum fits sum_to
passes_by_lowers =
    at_rows 2 1 (λ p z. mean_side w 2 (2 ^ 20) (2 ^ 8) (λ p z q. 0) too_low p z ≤ too_low p z * 2 ^ 36) ((tt, (tt, lit≤ tt)), (tt, lit≤ tt))

pub refused_figure : (l : Vector) → Certificate w 2 1 w_uppers l too_low → ⊥
unfolding mean_side over_row sum fits sum_to
refused_figure l c = not-le_of_lt (lit< tt) (c.means 0 0 (lit< tt) (lit< tt))

-- The promises bite: within 3 steps W returns in 0 with the chance 0.5625 and in 1 from 1 with certainty, and its mean is 1.5 steps.
pub upper_bites : (u : ℕ) → UpperHolds w 0 0 0 u → 589824 ≤ u
unfolding chance_from over_runs_within over_runs sum_to sum lists flat_map after weigh fits
upper_bites u h = omega (arith, h 3)

pub mean_bites : (r : ℕ) → MeanHolds w 0 0 r → 384 ≤ r
unfolding counted over_runs_within over_runs sum_to sum lists flat_map after weigh fits
mean_bites r h = omega (arith, h 3)

-- With a margin of 1/2 and one round: l is at most 1/2 and half of u. With a margin of 1 and two rounds: l is at most the chance within 3 steps.
pub lower_bites : (l u : ℕ) → LowerHolds w 0 0 0 l u 524288 → 2 * l ≤ 1048576 + u
unfolding steps_of chance_from over_runs_within over_runs sum_to sum lists flat_map after weigh fits
lower_bites l u h = omega (arith, h.as_shown 1)

pub lower_bites_later : (l u : ℕ) → LowerHolds w 0 0 0 l u 1048576 → l ≤ 589824
unfolding steps_of chance_from over_runs_within over_runs sum_to sum lists flat_map after weigh fits
lower_bites_later l u h = omega (arith, h.as_shown 2)
