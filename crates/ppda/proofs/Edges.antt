-- Both sides of equations of pushed symbols, by computation: each symbol is read in its own state, and what lies under through every state between.
use Prim.Native.Nat.{◌^◌}
use mathlib.Core.List.{[], ◌∷◌}
use mathlib.Core.Path.{◌≡◌, refl}
use Rattle.walks.specs.Sums.{sum, sum_to}
use Rattle.ppda.specs.Rules.{fits, over_row, two, pushed}
use Rattle.ppda.specs.Equations.{f, mean_side}
use Rattle.ppda.specs.Edges.{pushing, uppers, steps}

-- f at (0, 0, 0), (0, 0, 1), (1, 0, 0) and (1, 0, 1), in 1/2^56.
pub f_of_pushes : (f pushing 2 (2 ^ 20) uppers 0 0 0 ≡ 63175680711680000) × (f pushing 2 (2 ^ 20) uppers 0 0 1 ≡ 11255575951360000)
    × (f pushing 2 (2 ^ 20) uppers 1 0 0 ≡ 28077128926887936) × (f pushing 2 (2 ^ 20) uppers 1 0 1 ≡ 46137344000000000)
unfolding f over_row sum fits sum_to
f_of_pushes = (refl, refl, refl, refl)

-- The right side for (0, 0) and (1, 0), in 1/2^44 of a step.
pub steps_of_pushes : (mean_side pushing 2 (2 ^ 20) (2 ^ 8) uppers steps 0 0 ≡ 65664299759616)
    × (mean_side pushing 2 (2 ^ 20) (2 ^ 8) uppers steps 1 0 ≡ 30175098044416)
unfolding mean_side over_row sum fits sum_to
steps_of_pushes = (refl, refl)

-- The new top comes first.
pub top_first : pushed (two 1 2) ≡ 1 ∷ 2 ∷ []
top_first = refl
