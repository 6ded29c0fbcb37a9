-- Limits of what a record contributes to the sums.
use Prim.Native.Nat.{ℕ, ◌+◌, ◌*◌, ◌^◌, ◌≤◌}
use native.Mathlib.Nat.{le_refl, mul-le-mul}
use native.Mathlib.Omega.{arith}
use mathlib.Core.Bool.{Bool, true, false}
use mathlib.Core.List.{List}
use lib.Dec.{eqb}
use Rattle.walks.specs.Sums.{bit}
use Rattle.ppda.specs.Units.{chance_unit, most_chance, most_mean}
use Rattle.walks.specs.Order.{rows_in, entries_in}
use Rattle.ppda.specs.Rules.{Push, nothing, one, two}
use Rattle.ppda.specs.Equations.{through, steps_through}
use Rattle.model.specs.Format.{most_states}
use Rattle.delivery.specs.Numbers.{uppers_of}
use Rattle.delivery.specs.Clauses.{rows_of_block, Within}
use Rattle.equations.specs.Clauses.{product, steps_product}
use Rattle.rows.proofs.Sums.{sum_most}

bit_most : (t : Bool) → bit t ≤ 1
bit_most true = le_refl 1
bit_most false = omega arith

-- No entry is above the limit of the values.
pub upper_most : {d : List ℕ} {n a : ℕ} → Within d n a → (s g p z q : ℕ) → uppers_of s g d p z q ≤ a
unfolding uppers_of
upper_most hd s g p z q = hd.most _

module _ (s g : ℕ) (few : s ≤ most_states) {d : List ℕ} (hd : Within d (entries_in s g) most_chance) where
  pub through_most : (q r : ℕ) (x : Push) → through s chance_unit (uppers_of s g d) r x q ≤ 2 ^ 45
  through_most q r nothing = omega (arith, bit_most (eqb r q))
  through_most q r (one y) = omega (arith, upper_most hd s g r y q)
  through_most q r (two y x) = sum_most (product s g d r y x q) s (2 ^ 42) few (λ t. mul-le-mul (upper_most hd s g r y t) (upper_most hd s g t x q))

  pub steps_most : {e : List ℕ} → Within e (rows_in s g) most_mean
      → (r : ℕ) (x : Push) → steps_through s chance_unit (uppers_of s g d) (rows_of_block g e) r x ≤ 2 ^ 46 + 2 ^ 42
  steps_most he r nothing = omega arith
  steps_most he r (one y) = omega (arith, he.most (r * g + y))
  steps_most {e} he r (two y x) =
      omega (arith, he.most (r * g + y), sum_most (steps_product s g d e r y x) s (2 ^ 43) few (λ t. mul-le-mul (upper_most hd s g r y t) (he.most _)))
