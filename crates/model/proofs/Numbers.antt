-- Records compared by their numbers (request A.4): where two lists have as many digits, each below its base, the one that lies above writes the
-- greater number. So it is with any two records, whatever their bytes.
use Prim.Native.Nat.{ℕ, zero, suc, ◌+◌, ◌*◌, ◌<◌}
use native.Mathlib.Nat.{eq-or-lt_of_le}
use native.Mathlib.Omega.{arith}
use mathlib.Core.Bool.{Bool, true, false}
use mathlib.Core.List.{List, [], ◌∷◌}
use mathlib.Core.Logic.Iff
use mathlib.Core.Logic.{◌↔◌, ◌⊎◌, inl, inr}
use mathlib.Core.Path.{◌≡◌, refl, ◌∙◌}
use lib.Dec.{ltb}
use lib.ListN.{length, replicate}
use borrow.Author.Tests.{ltb-true, ltb-false}
use Rattle.walks.proofs.Places.{row_lower, row_once}
use Rattle.words.specs.Words.{Bytes}
use Rattle.model.specs.Format.{key_base}
use Rattle.model.specs.Records.{field, state, symbol, target, pushes, top, under, key}
use Rattle.model.specs.Numbers.{numeral, Digits, key_bases, key_number}
use Rattle.model.specs.Accepted.{Above}

-- ---- lists of digits of any length, each place to its own base

-- With a digit more, what stood before decides, and where that is the same, the digits do.
digit_more : {A : Type 0} (b u v x y : ℕ) → x < b → y < b
    → ((v * b + y < u * b + x) ⊎ ((u * b + x ≡ v * b + y) × A)) ↔ ((v < u) ⊎ ((u ≡ v) × ((y < x) ⊎ ((x ≡ y) × A))))
digit_more {A} b u v x y hx hy = (to, from)
  where
    not_less : v * b + y < u * b + x → (u ≡ v) ⊎ (u < v) → (v < u) ⊎ ((u ≡ v) × ((y < x) ⊎ ((x ≡ y) × A)))
    not_less h (inl e) = let d : v * b + y < v * b + x = rw e at h in inr (e, inl (omega arith))
    not_less h (inr l) = absurd (omega (arith, row_lower b u x v y hx l))

    decided : v * b + y < u * b + x → (t : Bool) → ltb v u ≡ t → (v < u) ⊎ ((u ≡ v) × ((y < x) ⊎ ((x ≡ y) × A)))
    decided h true e = inl (ltb-true v u e)
    decided h false e = not_less h (eq-or-lt_of_le (ltb-false v u e))

    to : (v * b + y < u * b + x) ⊎ ((u * b + x ≡ v * b + y) × A) → (v < u) ⊎ ((u ≡ v) × ((y < x) ⊎ ((x ≡ y) × A)))
    to (inl h) = decided h (ltb v u) refl
    to (inr (e, a)) = let (f, g) = row_once b u x v y hx hy e in inr (f, inr (g, a))

    from : (v < u) ⊎ ((u ≡ v) × ((y < x) ⊎ ((x ≡ y) × A))) → (v * b + y < u * b + x) ⊎ ((u * b + x ≡ v * b + y) × A)
    from (inl l) = inl (row_lower b v y u x hy l)
    from (inr (e, inl l)) = inl (rw e (omega arith))
    from (inr (e, inr (f, a))) = inr (rw (e, f), a)

-- Behind any two numbers.
numerals_behind : (bs xs ys : List ℕ) (u v : ℕ) → Digits bs xs → Digits bs ys
    → (numeral v bs ys < numeral u bs xs) ↔ ((v < u) ⊎ ((u ≡ v) × Above xs ys))
unfolding numeral
numerals_behind [] [] [] u v hx hy = (inl, last)
  where
    last : (v < u) ⊎ ((u ≡ v) × ⊥) → v < u
    last (inl l) = l
    last (inr (e, none)) = absurd none
numerals_behind [] [] (y ∷ ys) u v hx hy = absurd hy
numerals_behind [] (x ∷ xs) ys u v hx hy = absurd hx
numerals_behind (b ∷ bs) [] ys u v hx hy = absurd hx
numerals_behind (b ∷ bs) (x ∷ xs) [] u v hx hy = absurd hy
numerals_behind (b ∷ bs) (x ∷ xs) (y ∷ ys) u v hx hy =
    Iff.trans (numerals_behind bs xs ys (u * b + x) (v * b + y) hx.1 hy.1) (digit_more b u v x y hx.0 hy.0)

-- The lemma of request A.4: of two lists of digits to the same bases, the first writes the greater number exactly where it lies above the other.
pub numerals_exactly : (bs xs ys : List ℕ) → Digits bs xs → Digits bs ys → (numeral 0 bs ys < numeral 0 bs xs) ↔ Above xs ys
numerals_exactly bs xs ys hx hy = Iff.trans (numerals_behind bs xs ys 0 0 hx hy) (none, λ a. inr (refl, a))
  where
    none : (◌<◌ 0 0) ⊎ ((◌≡◌ {A = ℕ} 0 0) × Above xs ys) → Above xs ys
    none (inl l) = absurd (omega arith)
    none (inr (e, a)) = a

-- ---- six bytes

below : {x : ℕ} → x < 256 → x < key_base
below h = omega arith

bytes_are_digits : (n : ℕ) (xs : List ℕ) → length xs ≡ n → Bytes xs → Digits (replicate n key_base) xs
bytes_are_digits zero [] e h = tt
bytes_are_digits zero (x ∷ xs) e h = absurd (omega (arith, e))
bytes_are_digits (suc n) [] e h = absurd (omega (arith, e))
bytes_are_digits (suc n) (x ∷ xs) e h = (below (h.byte 0), bytes_are_digits n xs (omega (arith, e)) (record { byte = λ i. h.byte (suc i) }))

-- The theorem of request A.4, over any two lists of six bytes.
pub number_exactly : (xs ys : List ℕ) → length xs ≡ 6 → length ys ≡ 6 → Bytes xs → Bytes ys → (key_number ys < key_number xs) ↔ Above xs ys
number_exactly xs ys ex ey hx hy = numerals_exactly key_bases xs ys (bytes_are_digits 6 xs ex hx) (bytes_are_digits 6 ys ey hy)

-- So of record i of one file and record j of another, or of the same.
record_digits : (b : List ℕ) (i : ℕ) → Bytes b → Digits key_bases (key b i)
unfolding field
record_digits b i h = (below (h.byte _), (below (h.byte _), (below (h.byte _), (below (h.byte _), (below (h.byte _), (below (h.byte _), tt))))))

pub records_by_number : (b c : List ℕ) (i j : ℕ) → Bytes b → Bytes c → (key_number (key c j) < key_number (key b i)) ↔ Above (key b i) (key c j)
records_by_number b c i j hb hc = numerals_exactly key_bases (key b i) (key c j) (record_digits b i hb) (record_digits c j hc)

-- The number of record i as it is worked out of the fields that were read.
pub number_of_fields : (b : List ℕ) (i : ℕ) {p z q l y x n : ℕ} → p ≡ state b i → z ≡ symbol b i → q ≡ target b i → l ≡ pushes b i → y ≡ top b i → x ≡ under b i
    → n ≡ ((((p * key_base + z) * key_base + q) * key_base + l) * key_base + y) * key_base + x → n ≡ key_number (key b i)
unfolding numeral
number_of_fields b i hp hz hq hl hy hx worked =
    let e : 0 * key_base + state b i ≡ state b i = omega arith in worked ∙ rw (hp, hz, hq, hl, hy, hx, e)
