-- A second example, where model W is too small: two states, two symbols and every kind of push, by computation; and the places of
-- entries and rows in a file.
use Prim.Native.Nat.{ℕ, ◌^◌}
use mathlib.Core.Path.{◌≡◌, refl}
use mathlib.Core.List.{List, [], ◌∷◌, flat_map}
use Rattle.walks.specs.Sums.{sum, sum_to}
use Rattle.ppda.specs.Rules.{Rule, rule, nothing, one, two, fits, over_row, IsModel}
use Rattle.ppda.specs.Runs.{after, weigh, over_runs, over_runs_within}
use Rattle.ppda.specs.Chances.{chance, chance_from, mean, counted}
use Rattle.ppda.specs.Equations.{Vector, RowVector, entries, rows, f, mean_side}
use Rattle.ppda.proofs.Rows.{rules_of_test}
use Rattle.walks.specs.Lists.{list_to, each, lists}
use Rattle.walks.proofs.Lists.{at_rows, in_order, rows_in_order}

abbrev pub v : List Rule
v =
    rule 0 0 0 (one 1) 16384 ∷ rule 0 0 1 nothing 32768 ∷ rule 0 0 1 (two 1 0) 16384 ∷ rule 0 1 0 nothing 65536
    ∷ rule 1 0 0 (two 0 1) 32768 ∷ rule 1 0 1 (one 1) 32768 ∷ rule 1 1 0 nothing 16384 ∷ rule 1 1 1 nothing 49152 ∷ []

pub is_model_lem : IsModel 2 2 v
unfolding over_row sum fits
is_model_lem = record {
  rule = rules_of_test 2 2 v refl;
  row = at_rows 2 2 (λ p z. over_row v p z (λ r. 1) ≡ 65536) ((tt, ((tt, refl), refl)), ((tt, refl), refl));
}

pub chances : in_order 2 2 (chance v 2) ≡ 1073741824 ∷ 2147483648 ∷ 4294967296 ∷ 0 ∷ 536870912 ∷ 1610612736 ∷ 1073741824 ∷ 3221225472 ∷ []
unfolding in_order each list_to chance_from over_runs_within over_runs sum_to sum lists flat_map after weigh fits
chances = refl

pub means : rows_in_order 2 2 (mean v 2) ≡ 6442450944 ∷ 4294967296 ∷ 8589934592 ∷ 4294967296 ∷ []
unfolding rows_in_order each list_to counted over_runs_within over_runs sum_to sum lists flat_map after weigh fits
means = refl

abbrev pub v_uppers : Vector
v_uppers = entries 2 2 (1 ∷ 2 ∷ 3 ∷ 4 ∷ 5 ∷ 6 ∷ 7 ∷ 8 ∷ [])

abbrev pub v_means : RowVector
v_means = rows 2 (10 ∷ 20 ∷ 30 ∷ 40 ∷ [])

pub f_is : in_order 2 2 (f v 2 (2 ^ 20) v_uppers)
    ≡ 51540377600 ∷ 36028865739456512 ∷ 72057594037927936 ∷ 0 ∷ 240518725632 ∷ 274878562304 ∷ 18014398509481984 ∷ 54043195528445952 ∷ []
unfolding in_order each list_to f over_row sum fits sum_to
f_is = refl

pub sides : rows_in_order 2 2 (mean_side v 2 (2 ^ 20) (2 ^ 8) v_uppers v_means) ≡ 18622983274496 ∷ 17592186044416 ∷ 19310176239616 ∷ 17592186044416 ∷ []
unfolding rows_in_order each list_to mean_side over_row sum fits sum_to
sides = refl

-- With s states and g symbols, entry (p, z, q) has the place (p × g + z) × s + q, and row (p, z) the place p × g + z.
abbrev up_to12 : List ℕ
up_to12 = 0 ∷ 1 ∷ 2 ∷ 3 ∷ 4 ∷ 5 ∷ 6 ∷ 7 ∷ 8 ∷ 9 ∷ 10 ∷ 11 ∷ []

pub places : (entries 2 3 up_to12 0 1 1 ≡ 3) × (entries 2 3 up_to12 1 2 0 ≡ 10) × (entries 3 2 up_to12 1 1 2 ≡ 11)
    × (rows 3 up_to12 1 0 ≡ 3) × (rows 3 up_to12 0 2 ≡ 2) × (rows 2 up_to12 2 1 ≡ 5)
places = (refl, refl, refl, refl, refl, refl)
