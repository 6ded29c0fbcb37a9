-- The words of a line as the code finds them.
use Rattle.std.specs.Prelude.{ℕ, suc, cond, ◌&&◌, List, [], ◌∷◌, Option, Some, None, option_map, map, length, eqb}
use Rattle.std.specs.List.{list_all}
use Rattle.text.specs.Reading.{pieces, number_in}
use Rattle.spelling.specs.Spelling.{is_number}

-- Where the first word of a text ends: at a space (32), or at the end of the text.
unfoldable pub word_end : List ℕ → ℕ
word_end [] = 0
word_end (x ∷ xs) = cond (eqb x 32) 0 (suc (word_end xs))

-- The words of the rest of a line, which is empty or begins with a space.
unfoldable pub arguments_in : List ℕ → List (List ℕ)
arguments_in [] = []
arguments_in (x ∷ xs) = pieces 32 xs

-- A word as a number.
unfoldable pub number_as : List ℕ → Option ℕ
number_as w = cond (is_number w) (Some (number_in w)) None

-- The first word as a number, with the words after it.
abbrev pub first_number : List (List ℕ) → Option (ℕ × List (List ℕ))
first_number [] = None
first_number (w ∷ ws) = option_map (λ n. (n, ws)) (number_as w)

-- The numbers that words are: n words, each of which is a number.
unfoldable pub numbers_of : ℕ → List (List ℕ) → Option (List ℕ)
numbers_of n ws = cond (eqb (length ws) n && list_all is_number ws) (Some (map number_in ws)) None
