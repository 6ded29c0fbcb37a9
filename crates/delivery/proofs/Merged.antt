-- The merged file has its shape, its numbers are the sharper of each pair, and each of them is one of the two deliveries'.
use Prim.Native.Nat.{ℕ, ◌<◌}
use native.Mathlib.Omega.{arith}
use mathlib.Core.Bool.{Bool, true, false, ◌||◌, false≢true}
use mathlib.Core.List.{List}
use mathlib.Core.Path.{◌≡◌, refl}
use Rattle.walks.proofs.Numbers.{min_either}
use Rattle.ppda.specs.Equations.{RowVector, Same, SameRows}
use Rattle.ppda.specs.Merging.{smaller, larger}
use Rattle.model.specs.Records.{states_of, symbols_of}
use Rattle.delivery.specs.declared.shape.Shape.{Shape}
use Rattle.delivery.specs.Shapes.{has_lowers, has_means, shape_of}
use Rattle.delivery.specs.Numbers.{uppers_of, lowers_of, means_of}
use Rattle.delivery.specs.Made.{NumbersFit}
use Rattle.delivery.specs.Merged.{shape_with, merged_shape, merged_means, merged_of, merged}
use Rattle.delivery.proofs.Made.{shape_of_made, uppers_of_made, lowers_of_made, means_of_made}
use Rattle.std.specs.Prelude.{Some}

-- ---- the shape

pub lowers_with : (l r : Bool) → has_lowers (shape_with l r) ≡ l
lowers_with false false = refl
lowers_with false true = refl
lowers_with true false = refl
lowers_with true true = refl

pub means_with : (l r : Bool) → has_means (shape_with l r) ≡ r
means_with false false = refl
means_with false true = refl
means_with true false = refl
means_with true true = refl

-- By which shapes the files have.
pub merged_is : (b e d : List ℕ) {h k : Shape} → shape_of (states_of b) (symbols_of b) e ≡ Some h → shape_of (states_of b) (symbols_of b) d ≡ Some k
    → merged b e d ≡ merged_of (states_of b) (symbols_of b) h k e d
unfolding merged
merged_is b e d one other = rw (one, other)

-- ---- mean steps of two deliveries, of which one or the other may have none

module _ (P : ℕ → Type 0) (r t : RowVector) (p z : ℕ) where
  -- What holds of the mean steps of each that has any holds of the merged ones.
  pub mean_either : (x y : Bool) → (x || y) ≡ true → (x ≡ true → P (r p z)) → (y ≡ true → P (t p z)) → P (merged_means x y r t p z)
  mean_either true true some one other = min_either P (r p z) (t p z) (one refl) (other refl)
  mean_either true false some one other = one refl
  mean_either false true some one other = other refl
  mean_either false false some one other = absurd (false≢true some)

-- ---- the numbers

module _ (s g : ℕ) (h k : Shape) (e d : List ℕ) where
  pub merged_shape_lem : 0 < s → 0 < g → shape_of s g (merged_of s g h k e d) ≡ Some (merged_shape h k)
  unfolding merged_of
  merged_shape_lem hs hg = shape_of_made s g (merged_shape h k) _ _ _ hs hg

  module _ (fit : NumbersFit s g (merged_shape h k) (smaller (uppers_of s g e) (uppers_of s g d)) (larger (lowers_of s g e) (lowers_of s g d))
      (merged_means (has_means h) (has_means k) (means_of s g h e) (means_of s g k d))) where
    pub merged_uppers : Same s g (uppers_of s g (merged_of s g h k e d)) (smaller (uppers_of s g e) (uppers_of s g d))
    unfolding merged_of
    merged_uppers p z q hp hz hq = uppers_of_made s g (merged_shape h k) _ _ _ p z q hp hz hq (omega (arith, fit.uppers p z q hp hz hq))

    pub merged_lowers : has_lowers (merged_shape h k) ≡ true
        → Same s g (lowers_of s g (merged_of s g h k e d)) (larger (lowers_of s g e) (lowers_of s g d))
    unfolding merged_of
    merged_lowers has p z q hp hz hq =
        lowers_of_made s g (merged_shape h k) _ _ _ has p z q hp hz hq (omega (arith, fit.lowers has p z q hp hz hq))

    pub merged_means_lem : has_means (merged_shape h k) ≡ true
        → SameRows s g (means_of s g (merged_shape h k) (merged_of s g h k e d))
        (merged_means (has_means h) (has_means k) (means_of s g h e) (means_of s g k d))
    unfolding merged_of
    merged_means_lem has p z hp hz =
        means_of_made s g (merged_shape h k) _ _ _ has p z hp hz (omega (arith, (fit.means has p z hp hz).1))
