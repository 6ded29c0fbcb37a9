-- The laws of words: tests of every byte, the number that digits say, and that the words of a text are its first word and those of the rest.
use Prim.Native.Nat.{ℕ, zero, suc, ◌+◌, ◌-◌, ◌*◌, ◌^◌, ◌≤◌, ◌<◌}
use native.Mathlib.Nat.{pow-succ'}
use native.Mathlib.Numerals.{add-one, one-add}
use native.Mathlib.Omega.{arith}
use mathlib.Core.Bool.{Bool, true, false, not, cond, ◌&&◌, and-false, and-eq-true_iff}
use mathlib.Core.List.{List, [], ◌∷◌}
use mathlib.Core.Logic.{◌⊎◌}
use mathlib.Core.Path.{◌≡◌, refl, sym, ap, ap₂, ◌∙◌}
use lib.Dec.{eqb, leb}
use lib.ListN.{length, take, drop, get_or, drop_of_length-le}
use lib.Seq.{drop-cons, take-length, drop-length}
use borrow.Author.Tests.{eqb-true, leb-true, le-leb, lt-leb}
use Rattle.std.specs.List.{list_all, position, position_or_len}
use Rattle.std.specs.Option.{unwrap_or}
use Rattle.std.specs.Prelude.{Option, Some, None, nat_lt}
use Rattle.std.specs.Cmp.Lexicographic.{pointwise}
use Rattle.std.specs.Char.{is_ascii_control}
use Rattle.std.proofs.lemmas.Bool.Decides.{nat_tests}
use Rattle.std.proofs.lemmas.List.Recursion.{is_position_or_len}
use Rattle.text.specs.Reading.{pieces, in_front, number_after, number_in}
use Rattle.spelling.specs.Spelling.{same, every, is_printable, is_digit, is_plain, is_number}
use Rattle.spelling.specs.Clauses.{word_end, arguments_in, number_as}

-- ---- tests of every byte

-- A byte is printable where it is no control byte.
printable_is : (b : ℕ) → not (is_ascii_control b) ≡ is_printable b
printable_is b = grind (arith, nat_tests)

every_printable : (l : List ℕ) → list_all (λ b. not (is_ascii_control b)) l ≡ every is_printable l
unfolding every
every_printable [] = refl
every_printable (x ∷ xs) = ap₂ ◌&&◌ (printable_is x) (every_printable xs)

-- One byte that fails is enough.
pub every_false : (t : ℕ → Bool) (l : List ℕ) (i : ℕ) → i < length l → t (get_or l i 0) ≡ false → every t l ≡ false
unfolding every
every_false t [] i h e = absurd (omega arith)
every_false t (x ∷ xs) zero h e = rw e
every_false t (x ∷ xs) (suc i) h e = rw (every_false t xs i (omega arith) e, and-false (t x))

-- What holds of every byte holds of every one from byte i on.
pub every_drop : (t : ℕ → Bool) (i : ℕ) (l : List ℕ) → every t l ≡ true → every t (drop i l) ≡ true
unfolding every
every_drop t zero l e = e
every_drop t (suc i) [] e = refl
every_drop t (suc i) (x ∷ xs) e = every_drop t i xs ((and-eq-true_iff (t x) (every t xs)).0 e).1

-- A line is plain where it is short enough and every byte is printable.
pub plain_long : (l : List ℕ) → 300 < length l → is_plain l ≡ false
unfolding is_plain
plain_long l h = rw (lt-leb (length l) 300 h)

pub plain_short : (l : List ℕ) → length l ≤ 300 → list_all (λ b. not (is_ascii_control b)) l ≡ is_plain l
unfolding is_plain
plain_short l h = rw (le-leb (length l) 300 h) (every_printable l)

-- ---- two words

pub same_is_pointwise : (v w : List ℕ) → pointwise eqb v w ≡ same v w
unfolding same
same_is_pointwise [] [] = refl
same_is_pointwise [] (y ∷ ys) = refl
same_is_pointwise (x ∷ xs) [] = refl
same_is_pointwise (x ∷ xs) (y ∷ ys) = ap (λ t. eqb x y && t) (same_is_pointwise xs ys)

-- Words that are the same are equal.
pub same_is : (v w : List ℕ) → same v w ≡ true → v ≡ w
unfolding same
same_is [] [] e = refl
same_is [] (y ∷ ys) e = let z : ◌≡◌ {A = ℕ} 0 1 = cc in absurd (omega arith)
same_is (x ∷ xs) [] e = let z : ◌≡◌ {A = ℕ} 0 1 = cc in absurd (omega arith)
same_is (x ∷ xs) (y ∷ ys) e =
    let (first, rest) = (and-eq-true_iff (eqb x y) (same xs ys)).0 e in ap₂ (λ z zs. z ∷ zs) (eqb-true x y first) (same_is xs ys rest)

-- ---- where a word ends

-- A word ends within the text.
pub end_within : (l : List ℕ) → word_end l ≤ length l
unfolding word_end
end_within [] = omega arith
end_within (x ∷ xs) = go (eqb x 32) (end_within xs)
  where
    go : (t : Bool) → word_end xs ≤ length xs → cond t 0 (suc (word_end xs)) ≤ suc (length xs)
    go true h = omega arith
    go false h = omega arith

-- It ends at the place of the first space, where there is one.
pub end_is : (l : List ℕ) → unwrap_or (position (λ b. eqb b 32) l) (length l) ≡ word_end l
unfolding word_end
end_is l = by_place (position_or_len (λ b. eqb b 32) l) (sym (is_position_or_len word_end (λ b. eqb b 32) refl (λ x xs. rw one-add) l))
  where
    by_place : (p : ℕ) → p ≡ word_end l → unwrap_or (cond (nat_lt p (length l)) (Some p) None) (length l) ≡ word_end l
    by_place p e = let within = end_within l in grind (arith, nat_tests)

-- ---- what a word says as a number

-- The number that a text says after digits that say n, where it is digits.
abbrev pub number_on : ℕ → List ℕ → Option ℕ
number_on n l = cond (every is_digit l) (Some (number_after n l)) None

-- One byte of it, from byte i on: no digit, a digit, and the end.
module _ (n : ℕ) (l : List ℕ) (i : ℕ) where
  step : i < length l
      → number_on n (drop i l)
      ≡ cond (is_digit (get_or l i 0) && every is_digit (drop (i + 1) l)) (Some (number_after (n * 10 + (get_or l i 0 - 48)) (drop (i + 1) l))) None
  unfolding every number_after
  step h = rw (add-one, drop-cons l i 0 h)

  pub digit_fails : i < length l → is_digit (get_or l i 0) ≡ false → number_on n (drop i l) ≡ None
  digit_fails h e = step h ∙ rw e

  pub digit_passes : i < length l → is_digit (get_or l i 0) ≡ true → number_on n (drop i l) ≡ number_on (n * 10 + (get_or l i 0 - 48)) (drop (i + 1) l)
  digit_passes h e = step h ∙ rw e

  pub digits_done : length l ≤ i → number_on n (drop i l) ≡ Some n
  unfolding every number_after
  digits_done h = rw (drop_of_length-le l h)

-- It is below 10 ^ i after i digits.
digit_range : (d : ℕ) → is_digit d ≡ true → (48 ≤ d) × (d ≤ 57)
digit_range d e =
    let (least, most) = (and-eq-true_iff (leb 48 d) (leb d 57)).0 e in
    (leb-true 48 d least, leb-true d 57 most)

pub number_more : (n d i : ℕ) → n < 10 ^ i → is_digit d ≡ true → n * 10 + (d - 48) < 10 ^ (i + 1)
number_more n d i h e = rw (add-one, pow-succ') (omega (arith, digit_range d e))

-- A word is a number where it has 1 to 9 bytes and every one is a digit.
pub number_short : (w : List ℕ) → (length w < 1) ⊎ (9 < length w) → number_as w ≡ None
unfolding number_as is_number
number_short w h = grind (arith, nat_tests)

pub number_sized : (w : List ℕ) → 1 ≤ length w → length w ≤ 9 → number_as w ≡ number_on 0 w
unfolding number_as is_number number_in
number_sized w some most = rw (le-leb 1 (length w) some, le-leb (length w) 9 most)

-- ---- the words of a text

-- The words of a text are its first one and those of the rest.
pub pieces_split : (l : List ℕ) → pieces 32 l ≡ take (word_end l) l ∷ arguments_in (drop (word_end l) l)
unfolding pieces word_end arguments_in
pieces_split [] = refl
pieces_split (x ∷ xs) = go (eqb x 32) (pieces_split xs)
  where
    go : (t : Bool) → pieces 32 xs ≡ take (word_end xs) xs ∷ arguments_in (drop (word_end xs) xs)
        → cond t ([] ∷ pieces 32 xs) (in_front x (pieces 32 xs))
        ≡ take (cond t 0 (suc (word_end xs))) (x ∷ xs) ∷ arguments_in (drop (cond t 0 (suc (word_end xs))) (x ∷ xs))
    go true ih = refl
    go false ih = rw ih

-- Where a space stands at i, the words of the rest are those after it.
arguments_after : (l : List ℕ) (i : ℕ) → i < length l → arguments_in (drop i l) ≡ pieces 32 (drop (i + 1) l)
unfolding arguments_in
arguments_after l i h = rw (add-one, drop-cons l i 0 h)

arguments_none : arguments_in [] ≡ []
unfolding arguments_in
arguments_none = refl

-- A text whose first word is all of it.
pub pieces_one : (l : List ℕ) → word_end l ≡ length l → pieces 32 l ≡ l ∷ []
pieces_one l e = pieces_split l ∙ rw (e, take-length, drop-length, arguments_none)

-- A text with a space: its first word, and the words after the space.
pub pieces_more : (l : List ℕ) → word_end l < length l → pieces 32 l ≡ take (word_end l) l ∷ pieces 32 (drop (word_end l + 1) l)
pieces_more l h = pieces_split l ∙ rw (arguments_after l (word_end l) h)

-- Digits have no space among them, so that a text with a space is no number.
pub digits_end : (w : List ℕ) → every is_digit w ≡ true → word_end w ≡ length w
unfolding every word_end
digits_end [] e = refl
digits_end (x ∷ xs) e =
    let (digit, rest) = (and-eq-true_iff (is_digit x) (every is_digit xs)).0 e in
    go (eqb x 32) refl digit (digits_end xs rest)
  where
    go : (t : Bool) → eqb x 32 ≡ t → is_digit x ≡ true → word_end xs ≡ length xs → cond t 0 (suc (word_end xs)) ≡ suc (length xs)
    go true q digit ih = let z : x ≡ 32 = eqb-true x 32 q in let f : is_digit 32 ≡ true = rw z at digit in let o : ◌≡◌ {A = ℕ} 0 1 = cc in absurd (omega arith)
    go false q digit ih = ap suc ih

pub spaced_not : (text : List ℕ) → word_end text < length text → number_as text ≡ None
unfolding number_as is_number
spaced_not text h = go (every is_digit text) refl
  where
    go : (t : Bool) → every is_digit text ≡ t → cond ((leb 1 (length text) && leb (length text) 9) && t) (Some (number_in text)) None ≡ None
    go true e = absurd (omega (arith, digits_end text e))
    go false e = rw (and-false (leb 1 (length text) && leb (length text) 9))
