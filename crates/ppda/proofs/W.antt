-- Model W by computation: its chances and mean over runs, u − f(u), its live marks and its margin (document 01, "Model W").
use Prim.Native.Nat.{◌-◌, ◌*◌, ◌^◌}
use mathlib.Core.Path.{◌≡◌, refl}
use mathlib.Core.List.{[], ◌∷◌, flat_map}
use Rattle.walks.specs.Sums.{sum, sum_to, sign, least_to}
use Rattle.ppda.specs.Rules.{fits, over_row}
use Rattle.ppda.specs.Runs.{after, weigh, over_runs, over_runs_within}
use Rattle.ppda.specs.Chances.{chance, chance_from, mean, counted}
use Rattle.ppda.specs.Equations.{Vector, f, mean_side}
use Rattle.ppda.specs.Live.{mark, is_live, alive}
use Rattle.ppda.specs.Margin.{share, share_at, margin}
use Rattle.walks.specs.Lists.{list_to, each, lists}
use Rattle.walks.proofs.Lists.{in_order, rows_in_order}
use Rattle.ppda.specs.W.{w, w_uppers, w_lowers, w_means}

pub chances : (in_order 2 1 (chance w 0) ≡ 0 ∷ 0 ∷ 0 ∷ 0 ∷ [])
    × (in_order 2 1 (chance w 1) ≡ 32768 ∷ 16384 ∷ 0 ∷ 65536 ∷ [])
    × (in_order 2 1 (chance w 2) ≡ 2147483648 ∷ 1073741824 ∷ 0 ∷ 4294967296 ∷ [])
    × (in_order 2 1 (chance w 3) ≡ 158329674399744 ∷ 96757023244288 ∷ 0 ∷ 281474976710656 ∷ [])
unfolding in_order each list_to chance_from over_runs_within over_runs sum_to sum lists flat_map after weigh fits
chances = (refl, refl, refl, refl)

pub means : mean w 3 0 0 ≡ 422212465065984
unfolding counted over_runs_within over_runs sum_to sum lists flat_map after weigh fits
means = refl

-- u − f(u) in 1/2^56, of document 01's printout.
abbrev pub gap : Vector
gap p z q = w_uppers p z q * 2 ^ 36 - f w 2 (2 ^ 20) w_uppers p z q

pub gaps : in_order 2 1 gap ≡ 1970324836974592 ∷ 2251799813685248 ∷ 0 ∷ 9007199254740992 ∷ []
unfolding in_order each list_to f over_row sum fits sum_to
gaps = refl

pub live_marks : in_order 2 1 (alive w 2 1) ≡ 1 ∷ 1 ∷ 0 ∷ 1 ∷ []
unfolding in_order each list_to alive mark sign f over_row sum fits sum_to
live_marks = refl

pub margin_is : margin w 2 1 w_uppers ≡ 45875
unfolding margin least_to share_at share is_live alive mark sign f over_row sum fits sum_to
margin_is = refl

-- The right sides of the mean steps' inequality, in 1/2^44 of a step.
pub sides : rows_in_order 2 1 (mean_side w 2 (2 ^ 20) (2 ^ 8) w_uppers w_means) ≡ 34084860461056 ∷ 17592186044416 ∷ []
unfolding rows_in_order each list_to mean_side over_row sum fits sum_to
sides = refl

-- The bounds of document 01's printout.
pub bounds : (in_order 2 1 w_lowers ≡ 524288 ∷ 393216 ∷ 0 ∷ 1048576 ∷ []) × (in_order 2 1 w_uppers ≡ 655360 ∷ 524288 ∷ 0 ∷ 1179648 ∷ [])
    × (rows_in_order 2 1 w_means ≡ 512 ∷ 256 ∷ [])
unfolding in_order rows_in_order each list_to
bounds = (refl, refl, refl)
