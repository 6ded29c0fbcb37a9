-- The laws of the signed difference: it is exact for sums below 2^63, 0 only for equal sums, and an end of the range only where the exact
-- difference is that end or beyond it.
use Prim.Native.Nat.{ℕ, zero, suc, ◌+◌, ◌-◌, ◌^◌, ◌<◌, ◌≤◌, min}
use native.Mathlib.Omega.{arith}
use mathlib.Core.Bool.{Bool, true, false}
use mathlib.Core.Logic.{◌↔◌}
use mathlib.Core.Path.{◌≡◌, refl, sym, ap, ◌∙◌}
use lib.Dec.{leb}
use lib.IntN.{pos, negsuc, sub_ℕ, ◌-ℤ◌, +ℤ_idl, pos-ne-negsuc}
use mir.Syntax.{w64}
use mir.Val.{SFits}
use borrow.Author.Tests.{leb-true, leb-false, le-leb, lt-leb, lt-ltb, le-ltb}
use Rattle.outcome.specs.Differences.{difference}

-- A statement about two numbers by their order.
by_order : {P : Type 0} (a b : ℕ) → (b ≤ a → P) → (a < b → P) → P
by_order {P} a b over under = go (leb b a) refl
  where
    go : (t : Bool) → leb b a ≡ t → P
    go true e = over (leb-true b a e)
    go false e = under (leb-false b a e)

-- The two cases of the definition.
pub difference_over : (a b : ℕ) → b ≤ a → difference a b ≡ pos (min (a - b) 9223372036854775807)
unfolding difference
difference_over a b h = rw (le-leb b a h)

pub difference_under : (a b : ℕ) → a < b → difference a b ≡ negsuc (min (b - suc a) 9223372036854775807)
unfolding difference
difference_under a b h = rw (lt-leb b a h)

-- The same cases of the exact difference.
sub_over : (a b : ℕ) → b ≤ a → sub_ℕ a b ≡ pos (a - b)
sub_over a b h = rw (le-ltb a b h)

sub_under : (a b : ℕ) → a < b → sub_ℕ a b ≡ negsuc (b - suc a)
sub_under a b h = rw (lt-ltb a b h)

-- 0 − n in ℤ.
pub zero_minus : (n : ℕ) → 0 < n → pos 0 -ℤ pos n ≡ negsuc (n - 1)
zero_minus zero h = absurd (omega arith)
zero_minus (suc n) h = +ℤ_idl (negsuc n) ∙ ap negsuc (omega arith)

-- Sums below 2^63 have their exact difference.
pub difference_exact : (a b : ℕ) → a < 2 ^ 63 → b < 2 ^ 63 → difference a b ≡ sub_ℕ a b
difference_exact a b ha hb =
    by_order a b
    (λ h. difference_over a b h ∙ ap pos (omega arith) ∙ sym (sub_over a b h))
    (λ h. difference_under a b h ∙ ap negsuc (omega arith) ∙ sym (sub_under a b h))

-- That difference is in the range of an i64.
pub shortfall_fits : (a b : ℕ) → a < 2 ^ 63 → b < 2 ^ 63 → SFits w64 (sub_ℕ a b)
shortfall_fits a b ha hb =
    by_order a b
    (λ h. rw (sub_over a b h) (record { sfits = omega arith }))
    (λ h. rw (sub_under a b h) (record { sfits = omega arith }))

-- 0 only for equal sums.
pub difference_zero : (a b : ℕ) → (difference a b ≡ pos 0) ↔ (a ≡ b)
difference_zero a b = (
  λ e. by_order a b
      (λ h. let d = difference_over a b h in let z : min (a - b) 9223372036854775807 ≡ 0 = cc in omega arith)
      (λ h. absurd (pos-ne-negsuc 0 _ (sym e ∙ difference_under a b h))),
  λ e. difference_over a b (omega arith) ∙ ap pos (omega arith),
)

-- −2^63 exactly where the difference is at most that.
pub difference_least : (a b : ℕ) → (difference a b ≡ negsuc 9223372036854775807) ↔ (a + 2 ^ 63 ≤ b)
difference_least a b = (
  λ e. by_order a b
      (λ h. absurd (pos-ne-negsuc _ 9223372036854775807 (sym (difference_over a b h) ∙ e)))
      (λ h. let d = difference_under a b h in let z : min (b - suc a) 9223372036854775807 ≡ 9223372036854775807 = cc in omega arith),
  λ h. difference_under a b (omega arith) ∙ ap negsuc (omega arith),
)

-- 2^63 − 1 exactly where the difference is at least that.
pub difference_greatest : (a b : ℕ) → (difference a b ≡ pos 9223372036854775807) ↔ (b + (2 ^ 63 - 1) ≤ a)
difference_greatest a b = (
  λ e. by_order a b
      (λ h. let d = difference_over a b h in let z : min (a - b) 9223372036854775807 ≡ 9223372036854775807 = cc in omega arith)
      (λ h. absurd (pos-ne-negsuc 9223372036854775807 _ (sym e ∙ difference_under a b h))),
  λ h. difference_over a b (omega arith) ∙ ap pos (omega arith),
)
