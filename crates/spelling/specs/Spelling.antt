-- What the words of a line spell (docs/RULES.md, "The desk"). A line stands here without its end.
use Rattle.std.specs.Prelude.{ℕ, Bool, true, false, not, ◌&&◌, List, [], ◌∷◌, eqb, leb, length}

-- Two words are the same, byte by byte.
unfoldable pub same : List ℕ → List ℕ → Bool
same [] [] = true
same [] (y ∷ ys) = false
same (x ∷ xs) [] = false
same (x ∷ xs) (y ∷ ys) = eqb x y && same xs ys

-- Every byte of a text passes the test.
unfoldable pub every : (ℕ → Bool) → List ℕ → Bool
every t [] = true
every t (x ∷ xs) = t x && every t xs

-- No control byte: none below 32, and not 127.
abbrev pub is_printable : ℕ → Bool
is_printable b = leb 32 b && not (eqb b 127)

-- A decimal digit, 48 to 57.
abbrev pub is_digit : ℕ → Bool
is_digit b = leb 48 b && leb b 57

-- A line that can say a call: at most 300 bytes, none of them a control byte.
unfoldable pub is_plain : List ℕ → Bool
is_plain line = leb (length line) 300 && every is_printable line

-- A number is 1 to 9 decimal digits.
unfoldable pub is_number : List ℕ → Bool
is_number w = (leb 1 (length w) && leb (length w) 9) && every is_digit w

-- A file's name is 1 to 255 bytes; that it has no space and no control byte follows from where it stands.
unfoldable pub is_name : List ℕ → Bool
is_name w = leb 1 (length w) && leb (length w) 255

-- One word that names a file.
abbrev pub is_file : List (List ℕ) → Bool
is_file [] = false
is_file (w ∷ []) = is_name w
is_file (w ∷ v ∷ ws) = false
