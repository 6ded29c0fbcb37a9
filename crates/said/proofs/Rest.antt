-- The laws of what the words after the first say: a call of no words, and questions of numbers.
use Prim.Native.Nat.{ℕ, ◌<◌}
use native.Mathlib.Omega.{arith}
use mathlib.Core.Bool.{Bool, true, false, cond, and-true}
use mathlib.Core.List.{List, [], ◌∷◌}
use mathlib.Core.Path.{◌≡◌, refl, sym}
use lib.ListN.{length, get_or}
use Rattle.std.specs.Prelude.{Option, Some, None}
use Rattle.text.specs.Reading.{number_in}
use Rattle.spelling.specs.Spelling.{is_number}
use Rattle.spelling.specs.Clauses.{arguments_in, numbers_of}
use Rattle.spelling.proofs.Words.{pieces_split}
use Rattle.spelling.proofs.Rest.{numbers_other}
use Rattle.calls.specs.declared.Question.{Question}
use Rattle.said.specs.declared.Said.{Said}
use Rattle.said.specs.declared.Said.TheVariants as Says
use Rattle.said.specs.declared.Said.TheVariants.{Unclear}
use Rattle.said.specs.Said.{alone, on_row, on_entry, on_steps}

-- Words stand in the rest exactly where it is not empty.
pub alone_none : (call : Said) (rest : List ℕ) → length rest ≡ 0 → alone call (arguments_in rest) ≡ call
unfolding arguments_in
alone_none call [] e = refl
alone_none call (x ∷ xs) e = absurd (omega arith)

pub alone_some : (call : Said) (rest : List ℕ) → 0 < length rest → alone call (arguments_in rest) ≡ Unclear
unfolding arguments_in
alone_some call [] h = absurd (omega arith)
alone_some call (x ∷ xs) h = rw (pieces_split xs)

-- ---- questions of numbers

-- What numbers say by a question of them, and what none say.
abbrev pub asked : (List ℕ → Question) → Option (List ℕ) → Said
asked ask None = Unclear
asked ask (Some ns) = Says.Question (ask ns)

-- A question of two numbers, of three and of four.
abbrev pub of_row : (ℕ → ℕ → Question) → List ℕ → Question
of_row ask ns = ask (get_or ns 0 0) (get_or ns 1 0)

abbrev pub of_entry : (ℕ → ℕ → ℕ → Question) → List ℕ → Question
of_entry ask ns = ask (get_or ns 0 0) (get_or ns 1 0) (get_or ns 2 0)

abbrev pub of_steps : (ℕ → ℕ → ℕ → ℕ → Question) → List ℕ → Question
of_steps ask ns = ask (get_or ns 0 0) (get_or ns 1 0) (get_or ns 2 0) (get_or ns 3 0)

-- Words of another number than n say no question of n numbers, and n words say it by a test of them all.
other_words : (n : ℕ) (ws : List (List ℕ)) (ask : List ℕ → Question) → (length ws ≡ n → ⊥) → Unclear ≡ asked ask (numbers_of n ws)
other_words n ws ask other = rw (numbers_other n ws other)

by_test : (t : Bool) (ns : List ℕ) (ask : List ℕ → Question) → cond t (Says.Question (ask ns)) Unclear ≡ asked ask (cond t (Some ns) None)
by_test true ns ask = refl
by_test false ns ask = refl

pub row_said : (ask : ℕ → ℕ → Question) (ws : List (List ℕ)) → on_row ask ws ≡ asked (of_row ask) (numbers_of 2 ws)
unfolding numbers_of
row_said ask [] = other_words 2 [] (of_row ask) (omega arith)
row_said ask (p ∷ []) = other_words 2 (p ∷ []) (of_row ask) (omega arith)
row_said ask (p ∷ z ∷ []) = rw (and-true (is_number z)) (by_test _ (number_in p ∷ number_in z ∷ []) (of_row ask))
row_said ask (p ∷ z ∷ w ∷ ws) = other_words 2 (p ∷ z ∷ w ∷ ws) (of_row ask) (omega arith)

pub entry_said : (ask : ℕ → ℕ → ℕ → Question) (ws : List (List ℕ)) → on_entry ask ws ≡ asked (of_entry ask) (numbers_of 3 ws)
unfolding numbers_of
entry_said ask [] = other_words 3 [] (of_entry ask) (omega arith)
entry_said ask (p ∷ []) = other_words 3 (p ∷ []) (of_entry ask) (omega arith)
entry_said ask (p ∷ z ∷ []) = other_words 3 (p ∷ z ∷ []) (of_entry ask) (omega arith)
entry_said ask (p ∷ z ∷ q ∷ []) = rw (and-true (is_number q)) (by_test _ (number_in p ∷ number_in z ∷ number_in q ∷ []) (of_entry ask))
entry_said ask (p ∷ z ∷ q ∷ w ∷ ws) = other_words 3 (p ∷ z ∷ q ∷ w ∷ ws) (of_entry ask) (omega arith)

pub steps_said : (ask : ℕ → ℕ → ℕ → ℕ → Question) (ws : List (List ℕ)) → on_steps ask ws ≡ asked (of_steps ask) (numbers_of 4 ws)
unfolding numbers_of
steps_said ask [] = other_words 4 [] (of_steps ask) (omega arith)
steps_said ask (n ∷ []) = other_words 4 (n ∷ []) (of_steps ask) (omega arith)
steps_said ask (n ∷ p ∷ []) = other_words 4 (n ∷ p ∷ []) (of_steps ask) (omega arith)
steps_said ask (n ∷ p ∷ z ∷ []) = other_words 4 (n ∷ p ∷ z ∷ []) (of_steps ask) (omega arith)
steps_said ask (n ∷ p ∷ z ∷ q ∷ []) = rw (and-true (is_number q)) (by_test _ (number_in n ∷ number_in p ∷ number_in z ∷ number_in q ∷ []) (of_steps ask))
steps_said ask (n ∷ p ∷ z ∷ q ∷ w ∷ ws) = other_words 4 (n ∷ p ∷ z ∷ q ∷ w ∷ ws) (of_steps ask) (omega arith)

-- What is said by numbers that the code has found.
module _ (ws : List (List ℕ)) {found : Option (List ℕ)} where
  pub row_found : (ask : ℕ → ℕ → Question) → found ≡ numbers_of 2 ws → asked (of_row ask) found ≡ on_row ask ws
  row_found ask e = rw e (sym (row_said ask ws))

  pub entry_found : (ask : ℕ → ℕ → ℕ → Question) → found ≡ numbers_of 3 ws → asked (of_entry ask) found ≡ on_entry ask ws
  entry_found ask e = rw e (sym (entry_said ask ws))

  pub steps_found : (ask : ℕ → ℕ → ℕ → ℕ → Question) → found ≡ numbers_of 4 ws → asked (of_steps ask) found ≡ on_steps ask ws
  steps_found ask e = rw e (sym (steps_said ask ws))
