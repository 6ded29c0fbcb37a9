-- The smaller and the larger of two numbers, and quotients.
use Prim.Native.Nat.{ℕ, zero, suc, ◌/◌, ◌≤◌, ◌<◌, min, max}
use native.Mathlib.Nat.{le_trans, le_of_eq, div-zero, div-mul-le_self, le-div_iff_mul-le, zero-lt-suc}
use native.Mathlib.Omega.{arith}
use mathlib.Core.Bool.{Bool, true, false}
use mathlib.Core.Logic.{◌⊎◌, inl, inr}
use mathlib.Core.Path.{◌≡◌, refl, sym, subst, ◌∙◌}
use lib.Dec.{ltb}
use Rattle.walks.proofs.Exactly.{lt_exactly, not_lt_exactly}

-- Of two numbers the first is smaller, or not.
pub less_or_not : (a b : ℕ) → (a < b) ⊎ (b ≤ a)
less_or_not a b = go (ltb a b) refl
  where
    go : (t : Bool) → ltb a b ≡ t → (a < b) ⊎ (b ≤ a)
    go true e = inl ((lt_exactly a b).0 e)
    go false e = inr ((not_lt_exactly a b).0 e)

-- The smaller, and the larger, of two numbers is one of them: what holds of both holds of it.
module _ (P : ℕ → Type 0) (a b : ℕ) (one : P a) (other : P b) where
  pub min_either : P (min a b)
  min_either = go (less_or_not a b)
    where
      go : (a < b) ⊎ (b ≤ a) → P (min a b)
      go (inl less) = let e : a ≡ min a b = omega arith in subst P e one
      go (inr least) = let e : b ≡ min a b = omega arith in subst P e other

  pub max_either : P (max a b)
  max_either = go (less_or_not a b)
    where
      go : (a < b) ⊎ (b ≤ a) → P (max a b)
      go (inl less) = let e : b ≡ max a b = omega arith in subst P e other
      go (inr most) = let e : a ≡ max a b = omega arith in subst P e one

-- A quotient grows with what is divided.
pub div_grows : (a b k : ℕ) → a ≤ b → a / k ≤ b / k
div_grows a b zero le = le_of_eq (div-zero a ∙ sym (div-zero b))
div_grows a b (suc k) le = (le-div_iff_mul-le {k = suc k} {x = a / suc k} {y = b} (zero-lt-suc k)).1 (le_trans (div-mul-le_self a (suc k)) le)
