-- Numbers in decimal: the digits that `io::decimal` gives, the fewest that hold the number, are the decimal of the definition, 20 at most.
use Prim.Native.Nat.{ℕ, zero, suc, ◌+◌, ◌-◌, ◌*◌, ◌/◌, ◌%◌, ◌^◌, ◌<◌, ◌≤◌}
use native.Mathlib.Nat.{pow-succ', pow-le-pow_right, one-le-pow}
use native.Mathlib.Numerals.{unary_clauses}
use native.Mathlib.Omega.{arith}
use mathlib.Core.Bool.{Bool, true, false}
use mathlib.Core.List.{[], ◌∷◌, ◌++◌}
use mathlib.Core.Path.{◌≡◌, refl, sym, ap, ap₂, ◌∙◌}
use lib.Dec.{leb}
use borrow.Author.Tests.{leb-true, leb-false, lt-ltb, le-ltb}
use Rattle.io.specs.Digits.{hex_digit_ascii, last_digits, IsDigitCount}
use Rattle.text.specs.Decimal.{digits_to, decimal}

-- A decimal digit.
glyph_below : (d : ℕ) → d < 10 → hex_digit_ascii d ≡ 48 + d
glyph_below d h = rw (lt-ltb d 10 h)

-- The two cases of the definition.
few : (k n : ℕ) → n < 10 → digits_to (suc k) n ≡ (48 + n) ∷ []
unfolding digits_to
few k n h = rw (lt-ltb n 10 h)

more : (k n : ℕ) → 10 ≤ n → digits_to (suc k) n ≡ digits_to k (n / 10) ++ ((48 + n % 10) ∷ [])
unfolding digits_to
more k n h = rw (le-ltb n 10 h)

-- The fewest digits are those of the definition, in any room that holds them.
fewest_is : (k r n : ℕ) → n < 10 ^ suc k → (0 < k → 10 ^ k ≤ n) → k < r → last_digits 10 (suc k) n ≡ digits_to r n
fewest_is k zero n above below room = absurd (omega arith)
fewest_is zero (suc r) n above below room =
    ap (λ d. d ∷ []) (glyph_below (n % 10) (omega arith) ∙ omega arith) ∙ sym (few r n above)
fewest_is (suc k) (suc r) n above below room =
    let b : 10 ^ suc k ≤ n = below (omega arith) in
    let d : 10 ^ suc k ≡ 10 * 10 ^ k = pow-succ' 10 k in
    let u : n < 10 * 10 ^ suc k = rw pow-succ' at above in
    ap₂ ◌++◌
    (fewest_is k r (n / 10) (omega arith) (λ h. omega arith) (omega arith))
    (ap (λ d. d ∷ []) (glyph_below (n % 10) (omega arith)))
    ∙ sym (more r n (omega (arith, one-le-pow k 10 (omega arith))))

-- A number below 2^64 has at most 20 digits.
pub fewest_most : (n k : ℕ) → n < 2 ^ 64 → IsDigitCount 10 1 n k → k ≤ 20
fewest_most n k h f = go (leb k 20) refl
  where
    go : (t : Bool) → leb k 20 ≡ t → k ≤ 20
    go true e = leb-true k 20 e
    go false e =
        let most : 20 ≤ k - 1 = omega (arith, leb-false k 20 e) in
        absurd (omega (arith, f.2 (omega arith), pow-le-pow_right {n = 10} (omega arith) most))

-- They are its decimal.
pub fewest_decimal : (n k : ℕ) → n < 2 ^ 64 → IsDigitCount 10 1 n k → last_digits 10 k n ≡ decimal n
unfolding decimal
fewest_decimal n zero h f = absurd (omega arith)
fewest_decimal n (suc k) h f =
    fewest_is k 20 n f.1 (λ some. simp unary_clauses at (f.2 (omega arith))) (omega (arith, fewest_most n (suc k) h f))
