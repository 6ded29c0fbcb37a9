-- The number of a record, by which records are compared (request A.4).
use Rattle.std.specs.Prelude.{ℕ, ◌+◌, ◌*◌, ◌<◌, List, [], ◌∷◌}
use Rattle.model.specs.Format.{key_base}

-- The number that digits write behind n, read from the left, each digit to its own base: what stands before a digit is taken as often as its base
-- says. It ends where there is no further digit or base.
unfoldable pub numeral : ℕ → List ℕ → List ℕ → ℕ
numeral n [] ds = n
numeral n (b ∷ bs) [] = n
numeral n (b ∷ bs) (d ∷ ds) = numeral (n * b + d) bs ds

-- As many digits as bases, each below its own.
abbrev pub Digits : List ℕ → List ℕ → Type 0
Digits [] [] = Unit {0}
Digits [] (d ∷ ds) = ⊥
Digits (b ∷ bs) [] = ⊥
Digits (b ∷ bs) (d ∷ ds) = (d < b) × Digits bs ds

-- The bases of p, Z, q, L, Y and X.
abbrev pub key_bases : List ℕ
key_bases = key_base ∷ key_base ∷ key_base ∷ key_base ∷ key_base ∷ key_base ∷ []

-- The number of a record by its key: p, Z, q, L, Y and X, a byte each, as digits to the base 256, p first.
abbrev pub key_number : List ℕ → ℕ
key_number k = numeral 0 key_bases k
