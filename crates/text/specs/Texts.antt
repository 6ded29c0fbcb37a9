-- Texts made of texts.
use Rattle.std.specs.Prelude.{ℕ, List, [], ◌∷◌, ◌++◌}

-- The fields of a line, each after a space (32), and the line's end (10).
abbrev pub fields : List (List ℕ) → List ℕ
fields [] = 10 ∷ []
fields (x ∷ xs) = 32 ∷ (x ++ fields xs)
