-- The laws of the words after the first: a file's name is all of the rest after its space, and numbers are found one word after the other.
use Prim.Native.Nat.{ℕ, suc, ◌+◌, ◌-◌, ◌≤◌, ◌<◌}
use native.Mathlib.Omega.{arith}
use mathlib.Core.Bool.{Bool, true, false, cond, ◌&&◌, and-false}
use mathlib.Core.List.{List, [], ◌∷◌, map, ◌++◌}
use mathlib.Core.Logic.{◌⊎◌}
use mathlib.Core.Path.{◌≡◌, refl, sym, ap, ◌∙◌}
use lib.Dec.{eqb, leb}
use lib.ListN.{length, take, drop, set, length-drop}
use lib.Seq.{take_all}
use borrow.Author.Tests.{eqb-true, eqb-false, ne_eqb}
use Rattle.std.specs.List.{list_all}
use Rattle.std.specs.Prelude.{Option, Some, None, option_map}
use Rattle.std.specs.Bool.{then_some}
use Rattle.std.proofs.Common.{append_assoc}
use Rattle.std.proofs.Math.Dec.{eqb-suc-suc}
use Rattle.std.proofs.lemmas.Grind.{take-set_at}
use Rattle.std.proofs.lemmas.Bool.Decides.{nat_tests}
use Rattle.std.proofs.lemmas.List.{append-nil}
use Rattle.text.specs.Reading.{pieces, number_in}
use Rattle.spelling.specs.Spelling.{is_number, is_name, is_file}
use Rattle.spelling.specs.Clauses.{word_end, arguments_in, number_as, first_number, numbers_of}
use Rattle.spelling.proofs.Words.{end_within, pieces_split, pieces_one, pieces_more}

-- ---- a file's name

-- The part of a text from byte i on, as the code takes it.
pub part_from : (i : ℕ) (l : List ℕ) → take (length l - i) (drop i l) ≡ drop i l
part_from i l = take_all (length l - i) (drop i l) (rw length-drop (omega arith))

-- A text is one name where it has no space, and 1 to 255 bytes.
pub name_of : (text : List ℕ) → is_file (pieces 32 text) ≡ (eqb (word_end text) (length text) && is_name text)
name_of text = go (eqb (word_end text) (length text)) refl
  where
    go : (t : Bool) → eqb (word_end text) (length text) ≡ t → is_file (pieces 32 text) ≡ (t && is_name text)
    go true e = rw (pieces_one text (eqb-true (word_end text) (length text) e))
    go false e =
        let n = eqb-false (word_end text) (length text) e in
        let h : word_end text < length text = omega (arith, end_within text, n) in
        rw (pieces_more text h, pieces_split (drop (word_end text + 1) text))

-- So a rest that is empty names no file, and any other one does where what stands after its space is one word of a name's length.
pub file_none : (rest : List ℕ) → length rest ≡ 0 → is_file (arguments_in rest) ≡ false
unfolding arguments_in
file_none [] h = refl
file_none (x ∷ xs) h = absurd (omega arith)

module _ (rest text : List ℕ) (x : ℕ) (parts : rest ≡ x ∷ text) where
  rest_words : arguments_in rest ≡ pieces 32 text
  unfolding arguments_in
  rest_words = rw parts

  file_by : is_file (arguments_in rest) ≡ (eqb (word_end text) (length text) && (leb 1 (length text) && leb (length text) 255))
  unfolding is_name
  file_by = ap is_file rest_words ∙ name_of text

  pub file_sized : 1 ≤ length text → length text ≤ 255 → is_file (arguments_in rest) ≡ eqb (word_end text) (length text)
  file_sized some most = file_by ∙ grind (arith, nat_tests)

  pub file_unsized : (length text < 1) ⊎ (255 < length text) → is_file (arguments_in rest) ≡ false
  file_unsized none = file_by ∙ grind (arith, nat_tests)

-- ---- numbers

-- No words, and those of any other rest by its parts as the code takes them.
pub next_none : (rest : List ℕ) → length rest ≡ 0 → first_number (arguments_in rest) ≡ None
unfolding arguments_in
next_none [] h = refl
next_none (x ∷ xs) h = absurd (omega arith)

pub next_by : (rest text word left : List ℕ) (x e : ℕ) → rest ≡ x ∷ text → e ≡ word_end text → word ≡ take e text → left ≡ drop e text
    → first_number (arguments_in rest) ≡ option_map (λ n. (n, arguments_in left)) (number_as word)
next_by rest text word left x e parts end first others =
    ap first_number (rest_words rest text x parts ∙ pieces_split text) ∙ rw (first, others, end)

-- Numbers in front of others.
abbrev pub after : List ℕ → Option (List ℕ) → Option (List ℕ)
after ns found = option_map (λ more. ns ++ more) found

-- The numbers of a first word, where it is one, and of n words after it.
abbrev pub with_first : ℕ → Option (ℕ × List (List ℕ)) → Option (List ℕ)
with_first n None = None
with_first n (Some found) = after (found.0 ∷ []) (numbers_of n found.1)

-- Words of another number are no n numbers.
pub numbers_other : (n : ℕ) (ws : List (List ℕ)) → (length ws ≡ n → ⊥) → numbers_of n ws ≡ None
unfolding numbers_of
numbers_other n ws other = rw (ne_eqb (length ws) n other)

numbers_step : (n : ℕ) (ws : List (List ℕ)) → numbers_of (suc n) ws ≡ with_first n (first_number ws)
unfolding numbers_of number_as
numbers_step n [] = numbers_other (suc n) [] (omega arith)
numbers_step n (w ∷ ws) = rw (eqb-suc-suc (length ws) n) (by_first (is_number w) refl)
  where
    both : (t : Bool) → cond t (Some (number_in w ∷ map number_in ws)) None ≡ after (number_in w ∷ []) (cond t (Some (map number_in ws)) None)
    both true = refl
    both false = refl

    by_first : (t : Bool) → is_number w ≡ t
        → cond (eqb (length ws) n && (is_number w && list_all is_number ws)) (Some (number_in w ∷ map number_in ws)) None
        ≡ with_first n (option_map (λ m. (m, ws)) (cond (is_number w) (Some (number_in w)) None))
    by_first true e = rw e (both (eqb (length ws) n && list_all is_number ws))
    by_first false e = rw (e, and-false (eqb (length ws) n))

-- No words are left where the rest is empty.
numbers_none : (left : List ℕ) → numbers_of 0 (arguments_in left) ≡ cond (eqb (length left) 0) (Some []) None
unfolding numbers_of arguments_in
numbers_none [] = refl
numbers_none (x ∷ xs) = rw (pieces_split xs, ne_eqb (suc (length (arguments_in (drop (word_end xs) xs)))) 0 (omega arith), ne_eqb (suc (length xs)) 0 (omega arith))

after_both : (xs ys : List ℕ) (found : Option (List ℕ)) → after xs (after ys found) ≡ after (xs ++ ys) found
after_both xs ys None = refl
after_both xs ys (Some more) = ap Some (sym (append_assoc xs ys more))

-- What the code has found when it is to read number i.
module _ (n i : ℕ) (ws : List (List ℕ)) (xs left : List ℕ) (size : length xs ≡ n)
    (so_far : numbers_of n ws ≡ after (take i xs) (numbers_of (n - i) (arguments_in left))) where
  next : i < n → numbers_of n ws ≡ after (take i xs) (with_first (n - (i + 1)) (first_number (arguments_in left)))
  next h =
      let one : n - i ≡ suc (n - (i + 1)) = omega arith in
      so_far ∙ rw one (ap (after (take i xs)) (numbers_step (n - (i + 1)) (arguments_in left)))

  pub numbers_fail : i < n → first_number (arguments_in left) ≡ None → numbers_of n ws ≡ None
  numbers_fail h e = next h ∙ rw e

  pub numbers_more : i < n → {x : ℕ} {vs : List (List ℕ)} → first_number (arguments_in left) ≡ Some (x, vs)
      → numbers_of n ws ≡ after (take (i + 1) (set xs i x)) (numbers_of (n - (i + 1)) vs)
  numbers_more h {x} {vs} e = next h ∙ rw (e, take-set_at xs i (i + 1) x refl (omega arith)) (after_both (take i xs) (x ∷ []) (numbers_of (n - (i + 1)) vs))

  pub numbers_end : i ≡ n → numbers_of n ws ≡ then_some (eqb (length left) 0) xs
  numbers_end e =
      let none : n - i ≡ 0 = omega arith in
      so_far ∙ rw (none, numbers_none left, take_all i xs (omega arith)) (by_rest (eqb (length left) 0))
    where
      by_rest : (t : Bool) → after xs (cond t (Some []) None) ≡ then_some t xs
      by_rest true = ap Some (append-nil xs)
      by_rest false = refl
