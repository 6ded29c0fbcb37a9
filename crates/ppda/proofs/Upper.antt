-- Mission point 3, the uppers (document 001, Lemma 3): where u ≥ f(u) at every entry, every chance within n steps is at
-- most the upper. By induction on n: n + 1 steps are at most f of n steps, which is at most f(u).
use Prim.Native.Nat.{ℕ, zero, suc, ◌*◌, ◌^◌, ◌≤◌, ◌<◌, zero-le}
use native.Mathlib.Nat.{le_of_mul-le-mul_left, mul-le-mul_right, mul-pos, one-le-pow, zero-lt-suc, pow-succ', zero-mul}
use native.Mathlib.Omega.{arith}
use mathlib.Core.List.{List}
use lib.Dec.{lit<}
use Rattle.ppda.specs.Rules.{Rule, IsModel}
use Rattle.ppda.specs.Chances.{chance}
use Rattle.ppda.specs.Equations.{Vector, f}
use Rattle.ppda.specs.Bounds.{Uppers, UppersHold}
use Rattle.ppda.proofs.Steps.{chance_zero}
use Rattle.ppda.proofs.Equations.{Under, f_grows, chance_step_le_f}

pub power_positive : (n : ℕ) → 0 < 65536 ^ n
power_positive n = one-le-pow n 65536 (zero-lt-suc 65535)

-- c counts 1/(65536·e), u counts 1/d.
cancel : (e d c x y u : ℕ) → 0 < e → 0 < d → e * c ≤ x → x * (d * d) ≤ y * (e * e) → y ≤ u * (65536 * d) → c * d ≤ u * (65536 * e)
cancel e d c x y u he hd h1 h2 h3 =
    le_of_mul-le-mul_left {k = e * d} (omega (arith, mul-le-mul_right (d * d) h1, mul-le-mul_right (e * e) h3)) (mul-pos he hd)

-- At every entry, for one n after the other.
pub chances_under : (m : List Rule) (s g : ℕ) (u : Vector) → IsModel s g m → Uppers m s g u → (n : ℕ) → Under s g (65536 ^ n) (2 ^ 20) (chance m n) u
chances_under m s g u model uppers zero p z q hp hz hq = simp (chance_zero m, zero-mul) zero-le
chances_under m s g u model uppers (suc n) p z q hp hz hq =
    simp pow-succ'
    (cancel (65536 ^ n) (2 ^ 20) (chance m (suc n) p z q) (f m s (65536 ^ n) (chance m n) p z q) (f m s (2 ^ 20) u p z q) (u p z q)
    (power_positive n) (lit< tt) (chance_step_le_f m s g model n p z q)
    (f_grows m s g model (65536 ^ n) (2 ^ 20) (chance m n) u (chances_under m s g u model uppers n) p z q hq) (uppers p z q hp hz hq))

pub upper_holds : (m : List Rule) (s g : ℕ) (u : Vector) → IsModel s g m → Uppers m s g u → UppersHold m s g u
upper_holds m s g u model uppers p z q hp hz hq n = chances_under m s g u model uppers n p z q hp hz hq
