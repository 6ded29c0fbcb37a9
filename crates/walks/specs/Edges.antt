-- The order by exit (request A.6) of a model with two states and three symbols, in numbers.
use Rattle.std.specs.Prelude.{ℕ, ◌+◌, ◌*◌, List, [], ◌∷◌}

-- An entry as one number: its p, Z and q are the digits.
abbrev pub as_digits : ℕ → ℕ → ℕ → ℕ
as_digits p z q = p * 100 + z * 10 + q

-- Its entries in the order of places.
abbrev pub exits_in_order : List ℕ
exits_in_order = 0 ∷ 10 ∷ 20 ∷ 100 ∷ 110 ∷ 120 ∷ 1 ∷ 11 ∷ 21 ∷ 101 ∷ 111 ∷ 121 ∷ []

-- The places of its entries in the order of files: of (0, 0, 0), (0, 0, 1), (0, 1, 0) and so on.
abbrev pub places_in_order : List ℕ
places_in_order = 0 ∷ 6 ∷ 1 ∷ 7 ∷ 2 ∷ 8 ∷ 3 ∷ 9 ∷ 4 ∷ 10 ∷ 5 ∷ 11 ∷ []
