-- How a text is read: in lines, a line in words, a word as a number. These definitions know nothing of how texts are made.
use Rattle.std.specs.Prelude.{ℕ, ◌+◌, ◌-◌, ◌*◌, cond, List, [], ◌∷◌, map, eqb}

-- A byte put in front of the first piece.
abbrev pub in_front : ℕ → List (List ℕ) → List (List ℕ)
in_front x [] = (x ∷ []) ∷ []
in_front x (piece ∷ more) = (x ∷ piece) ∷ more

-- The pieces of a text between the bytes c, and before the first and after the last of them.
unfoldable pub pieces : ℕ → List ℕ → List (List ℕ)
pieces c [] = [] ∷ []
pieces c (x ∷ xs) = cond (eqb x c) ([] ∷ pieces c xs) (in_front x (pieces c xs))

-- The lines of a text, between line ends (10), each as its words, between spaces (32).
unfoldable pub words_in : List ℕ → List (List (List ℕ))
words_in text = map (pieces 32) (pieces 10 text)

-- The number that decimal digits say, the most significant first, after those that say n. Digit 0 is 48.
unfoldable pub number_after : ℕ → List ℕ → ℕ
number_after n [] = n
number_after n (d ∷ ds) = number_after (n * 10 + (d - 48)) ds

unfoldable pub number_in : List ℕ → ℕ
number_in digits = number_after 0 digits
