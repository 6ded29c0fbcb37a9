-- A number below 2^32 is told by its four bytes, and four bytes by their number: the library's laws of bytes say both.
use Prim.Native.Nat.{ℕ, zero, suc, ◌+◌, ◌*◌, ◌/◌, ◌%◌, ◌≤◌, ◌<◌, ◌^◌}
use native.Mathlib.Nat.{add-zero, add-suc}
use native.Mathlib.Omega.{arith}
use mathlib.Core.List.{List, [], ◌∷◌, ◌++◌, append_assoc}
use mathlib.Core.Path.{◌≡◌, refl, sym, ap, ap₂, ◌∙◌}
use lib.ListN.{length, get_or, take, drop, set, length-append, length-drop}
use lib.Seq.{length-take-le, drop-cons, get_or-append-add, get_or-set_other, drop-append-add, take-add, take_at, drop-drop, sets, sets-eq}
use mathlib.Core.Logic.{◌⊎◌, inl, inr}
use Rattle.std.proofs.lemmas.Nat.{le_bytes_4, from_le_bytes-to_le_bytes_4}
use Rattle.words.specs.Words.{word_at, four_bytes, Bytes}
use Rattle.words.specs.Clauses.{written}

-- ---- lists of bytes

pub bytes_none : Bytes []
bytes_none = record { byte = λ i. omega arith }

pub bytes_cons : {a : ℕ} {b : List ℕ} → a < 256 → Bytes b → Bytes (a ∷ b)
bytes_cons {a} {b} h bytes = record { byte = go }
  where
    go : (i : ℕ) → get_or (a ∷ b) i 0 < 256
    go zero = h
    go (suc i) = bytes.byte i

pub bytes_append : (x : List ℕ) {y : List ℕ} → Bytes x → Bytes y → Bytes (x ++ y)
bytes_append [] h k = k
bytes_append (a ∷ x) h k = bytes_cons (h.byte 0) (bytes_append x (record { byte = λ i. h.byte (suc i) }) k)

pub four_are_bytes : (n : ℕ) → Bytes (four_bytes n)
four_are_bytes n = bytes_cons (omega arith) (bytes_cons (omega arith) (bytes_cons (omega arith) (bytes_cons (omega arith) bytes_none)))

-- ---- parts of a file

-- A part by its first byte and the rest, counted from `at`.
pub part_next : (b : List ℕ) (at k n : ℕ) → at + k < length b
    → take (suc n) (drop (at + k) b) ≡ get_or b (at + k) 0 ∷ take n (drop (at + suc k) b)
part_next b at k n h = rw (add-suc, drop-cons b (at + k) 0)

-- A part by its first n bytes and m more.
pub part_more : (b : List ℕ) (at n m : ℕ) → take (n + m) (drop at b) ≡ take n (drop at b) ++ take m (drop (at + n) b)
part_more b at n m = take-add n m (drop at b) ∙ ap (λ l. take n (drop at b) ++ take m l) (drop-drop n at b)

-- ---- words

-- A word by its four bytes.
pub word_by : (b : List ℕ) (at : ℕ) {a c d e : ℕ} → get_or b at 0 ≡ a → get_or b (at + 1) 0 ≡ c → get_or b (at + 2) 0 ≡ d → get_or b (at + 3) 0 ≡ e
    → word_at b at ≡ a + c * 256 + d * 65536 + e * 16777216
unfolding word_at
word_by b at p q r s = rw (p, q, r, s)

-- The four bytes of a number below 2^32 make the number.
pub bytes_make : (n : ℕ) → n < 2 ^ 32 → n % 256 + n / 256 % 256 * 256 + n / 65536 % 256 * 65536 + n / 16777216 % 256 * 16777216 ≡ n
bytes_make n h = from_le_bytes-to_le_bytes_4 n h

-- Four bytes are those of the number that they make.
pub make_bytes : (n a b c d : ℕ) → a < 256 → b < 256 → c < 256 → d < 256 → n ≡ a + b * 256 + c * 65536 + d * 16777216
    → four_bytes n ≡ a ∷ b ∷ c ∷ d ∷ []
make_bytes n a b c d ha hb hc hd e =
    le_bytes_4 (a ∷ b ∷ c ∷ d ∷ []) n refl (bytes_cons ha (bytes_cons hb (bytes_cons hc (bytes_cons hd bytes_none)))).byte e

-- A word reads what stands at its place.
pub word_past : (x y : List ℕ) (at : ℕ) → word_at (x ++ y) (length x + at) ≡ word_at y at
unfolding word_at
word_past x y at = word_by (x ++ y) (length x + at) (get_or-append-add x y at 0) (byte 1) (byte 2) (byte 3)
  where
    byte : (j : ℕ) → get_or (x ++ y) (length x + at + j) 0 ≡ get_or y (at + j) 0
    byte j = ap (λ k. get_or (x ++ y) k 0) (omega arith) ∙ get_or-append-add x y (at + j) 0

-- Reading what was made.
pub word_made : (x y : List ℕ) (n : ℕ) → n < 2 ^ 32 → word_at (x ++ (four_bytes n ++ y)) (length x) ≡ n
unfolding word_at
word_made x y n h =
    ap (word_at (x ++ (four_bytes n ++ y))) (sym (add-zero (length x))) ∙ word_past x (four_bytes n ++ y) 0 ∙ bytes_make n h

-- Making what was read.
pub made_word : (b : List ℕ) (at : ℕ) → Bytes b → at + 4 ≤ length b → four_bytes (word_at b at) ≡ take 4 (drop at b)
unfolding word_at
made_word b at bytes h =
    make_bytes (word_at b at) (get_or b at 0) (get_or b (at + 1) 0) (get_or b (at + 2) 0) (get_or b (at + 3) 0)
    (bytes.byte at) (bytes.byte (at + 1)) (bytes.byte (at + 2)) (bytes.byte (at + 3)) refl
    ∙ sym four
  where
    step : (k n : ℕ) → k < 4 → take (suc n) (drop (at + k) b) ≡ get_or b (at + k) 0 ∷ take n (drop (at + suc k) b)
    step k n l = part_next b at k n (omega arith)

    four : take 4 (drop at b) ≡ get_or b at 0 ∷ get_or b (at + 1) 0 ∷ get_or b (at + 2) 0 ∷ get_or b (at + 3) 0 ∷ []
    four =
        ap (λ j. take 4 (drop j b)) (sym (add-zero at))
        ∙ rw (step 0 3 (omega arith), step 1 2 (omega arith), step 2 1 (omega arith), step 3 0 (omega arith), add-zero)

-- ---- bytes in their places, one after the other

pub sets_written : (vs l : List ℕ) (at : ℕ) → at + length vs ≤ length l → sets l at vs ≡ written l at vs
sets_written vs l at h = sets-eq vs l at h ∙ append_assoc (take at l) vs (drop (at + length vs) l)

pub length_written : (l : List ℕ) (at : ℕ) (x : List ℕ) → at + length x ≤ length l → length (written l at x) ≡ length l
length_written l at x h =
    length-append (take at l) (x ++ drop (at + length x) l)
    ∙ ap₂ ◌+◌ (length-take-le at l (omega arith)) (length-append x (drop (at + length x) l))
    ∙ omega (arith, length-drop (at + length x) l)

-- Two parts, the second right behind the first.
pub written_twice : (l : List ℕ) (at : ℕ) (x y : List ℕ) → at + length x ≤ length l
    → written (written l at x) (at + length x) y ≡ written l at (x ++ y)
written_twice l at x y h =
    ap₂ (λ a b. a ++ (y ++ b))
    (ap (take (at + length x)) split ∙ take_at (take at l ++ x) (drop (at + length x) l) (at + length x) front)
    (ap (drop (at + length x + length y)) split ∙ ap (λ n. drop (n + length y) (take at l ++ x ++ drop (at + length x) l)) (sym front)
    ∙ drop-append-add (take at l ++ x) (drop (at + length x) l) (length y) ∙ drop-drop (length y) (at + length x) l)
    ∙ append_assoc (take at l) x _
    ∙ ap (λ r. take at l ++ r) (sym (append_assoc x y _) ∙ ap (λ n. x ++ y ++ drop n l) behind)
  where
    split : written l at x ≡ take at l ++ x ++ drop (at + length x) l
    split = sym (append_assoc (take at l) x (drop (at + length x) l))

    front : length (take at l ++ x) ≡ at + length x
    front = length-append (take at l) x ∙ ap (λ n. n + length x) (length-take-le at l (omega arith))

    behind : at + length x + length y ≡ at + length (x ++ y)
    behind = omega (arith, length-append x y)

pub put_four : (l : List ℕ) (at a b c d : ℕ) → at + 3 < length l
    → set (set (set (set l at a) (at + 1) b) (at + 2) c) (at + 3) d ≡ written l at (a ∷ b ∷ c ∷ d ∷ [])
put_four l at a b c d h =
    let e₁ : at + 1 ≡ suc at = omega arith in
    let e₂ : at + 2 ≡ suc (suc at) = omega arith in
    let e₃ : at + 3 ≡ suc (suc (suc at)) = omega arith in
    rw (e₁, e₂, e₃) (sets_written (a ∷ b ∷ c ∷ d ∷ []) l at (omega arith))

-- Reading what was written.
pub word_written : (l : List ℕ) (at n : ℕ) → n < 2 ^ 32 → at ≤ length l → word_at (written l at (four_bytes n)) at ≡ n
word_written l at n h room =
    ap (word_at (written l at (four_bytes n))) (sym (length-take-le at l room)) ∙ word_made (take at l) (drop (at + 4) l) n h

-- Reading apart from what was written.
pub word_apart : (l : List ℕ) (at n from : ℕ) → at + 3 < length l → (from + 3 < at) ⊎ (at + 3 < from)
    → word_at (written l at (four_bytes n)) from ≡ word_at l from
unfolding word_at
word_apart l at n from room apart = rw (first, byte 1 (omega arith), byte 2 (omega arith), byte 3 (omega arith))
  where
    off : (k : ℕ) → k < 4 → (j : ℕ) → j < 4 → (from + 3 < at) ⊎ (at + 3 < from) → from + k ≡ at + j → ⊥
    off k hk j hj (inl before) e = omega arith
    off k hk j hj (inr after) e = omega arith

    byte : (k : ℕ) → k < 4 → get_or (written l at (four_bytes n)) (from + k) 0 ≡ get_or l (from + k) 0
    byte k hk =
        ap (λ x. get_or x (from + k) 0) (sym (put_four l at (n % 256) (n / 256 % 256) (n / 65536 % 256) (n / 16777216 % 256) room))
        ∙ get_or-set_other (set (set (set l at (n % 256)) (at + 1) (n / 256 % 256)) (at + 2) (n / 65536 % 256)) (at + 3) (from + k) (n / 16777216 % 256) 0 (off k hk 3 (omega arith) apart)
        ∙ get_or-set_other (set (set l at (n % 256)) (at + 1) (n / 256 % 256)) (at + 2) (from + k) (n / 65536 % 256) 0 (off k hk 2 (omega arith) apart)
        ∙ get_or-set_other (set l at (n % 256)) (at + 1) (from + k) (n / 256 % 256) 0 (off k hk 1 (omega arith) apart)
        ∙ get_or-set_other l at (from + k) (n % 256) 0 (λ e. off k hk 0 (omega arith) apart (e ∙ sym (add-zero at)))

    first : get_or (written l at (four_bytes n)) from 0 ≡ get_or l from 0
    first = ap (λ i. get_or (written l at (four_bytes n)) i 0) (sym (add-zero from)) ∙ byte 0 (omega arith) ∙ ap (λ i. get_or l i 0) (add-zero from)
