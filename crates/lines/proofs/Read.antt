-- A line is read as the words that it was made of: the word it begins with, and its fields.
use Prim.Native.Nat.{ℕ, suc}
use mathlib.Core.List.{List, [], ◌∷◌, ◌++◌}
use mathlib.Core.Path.{◌≡◌, refl}
use lib.IntN.{ℤ, pos, negsuc}
use Rattle.text.specs.Decimal.{decimal, signed}
use Rattle.text.specs.Reading.{words_in}
use Rattle.text.proofs.Reading.{Word, word_tested, decimal_word, words_of_line}
use Rattle.calls.specs.Calls.{Reply, cleared, accepted, known, new, value, refused}
use Rattle.lines.specs.Lines.{shown, table_word, margin_word, chance_word, steps_word, refused_word, table_line, margin_line, chance_line, steps_line, refused_line}

-- ---- words

dash_word : Word (45 ∷ [])
dash_word = word_tested (45 ∷ []) refl

shown_word : (r : Reply) → Word (shown r)
shown_word (value n) = decimal_word n
shown_word cleared = dash_word
shown_word accepted = dash_word
shown_word known = dash_word
shown_word new = dash_word
shown_word (refused n i k) = dash_word

signed_word : (k : ℤ) → Word (signed k)
signed_word (pos n) = decimal_word n
signed_word (negsuc n) =
    let digits = decimal_word (suc n) in
    record { space = (refl, digits.space); end = (refl, digits.end) }

-- ---- lines, each before any rest

module _ (rest : List ℕ) where
  pub table_read : (s g n alive : ℕ) → words_in (table_line s g n alive ++ rest)
      ≡ (table_word ∷ decimal s ∷ decimal g ∷ decimal n ∷ decimal alive ∷ []) ∷ words_in rest
  table_read s g n alive =
      words_of_line table_word _ rest (word_tested table_word refl)
      (decimal_word s, (decimal_word g, (decimal_word n, (decimal_word alive, tt))))

  pub margin_read : (m : Reply) → words_in (margin_line m ++ rest) ≡ (margin_word ∷ shown m ∷ []) ∷ words_in rest
  margin_read m =
      words_of_line margin_word _ rest (word_tested margin_word refl) (shown_word m, tt)

  pub chance_read : (p z q : ℕ) (l u : Reply) (gap : ℕ) → words_in (chance_line p z q l u gap ++ rest)
      ≡ (chance_word ∷ decimal p ∷ decimal z ∷ decimal q ∷ shown l ∷ shown u ∷ decimal gap ∷ []) ∷ words_in rest
  chance_read p z q l u gap =
      words_of_line chance_word _ rest (word_tested chance_word refl)
      (decimal_word p, (decimal_word z, (decimal_word q, (shown_word l, (shown_word u, (decimal_word gap, tt))))))

  pub steps_read : (p z r : ℕ) → words_in (steps_line p z r ++ rest) ≡ (steps_word ∷ decimal p ∷ decimal z ∷ decimal r ∷ []) ∷ words_in rest
  steps_read p z r =
      words_of_line steps_word _ rest (word_tested steps_word refl)
      (decimal_word p, (decimal_word z, (decimal_word r, tt)))

  pub refused_read : (n i : ℕ) (k : ℤ) → words_in (refused_line n i k ++ rest) ≡ (refused_word ∷ decimal n ∷ decimal i ∷ signed k ∷ []) ∷ words_in rest
  refused_read n i k =
      words_of_line refused_word _ rest (word_tested refused_word refl)
      (decimal_word n, (decimal_word i, (signed_word k, tt)))
