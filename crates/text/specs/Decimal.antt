-- Numbers as text, in ASCII.
use Rattle.std.specs.Prelude.{ℕ, zero, suc, ◌+◌, ◌/◌, ◌%◌, cond, List, [], ◌∷◌, ◌++◌, ltb, ℤ, pos, negsuc}

-- The decimal digits of n, the most significant first; only the last k of them where there are more. Digit 0 is 48.
unfoldable pub digits_to : ℕ → ℕ → List ℕ
digits_to zero n = []
digits_to (suc k) n = cond (ltb n 10) ((48 + n) ∷ []) (digits_to k (n / 10) ++ ((48 + n % 10) ∷ []))

-- A number in decimal. Every number that is printed is below 2^64, so that 20 digits hold it.
unfoldable pub decimal : ℕ → List ℕ
decimal n = digits_to 20 n

-- A signed number in decimal, with `-` (45) before one below zero.
abbrev pub signed : ℤ → List ℕ
signed (pos n) = decimal n
signed (negsuc n) = 45 ∷ decimal (suc n)
