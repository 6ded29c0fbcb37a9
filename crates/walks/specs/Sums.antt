-- Walks over the numbers 0, 1, …, n − 1 and over lists: sums, least and greatest values, tests; and truth values as numbers.
use Rattle.std.specs.Prelude.{ℕ, zero, suc, ◌+◌, min, max, Bool, true, false, ◌&&◌, List, [], ◌∷◌, ◌⊎◌, ◌≡◌}

-- 1 for true and 0 for false.
abbrev pub bit : Bool → ℕ
bit true = 1
bit false = 0

-- 1 for a number above 0, and 0 for 0.
unfoldable pub sign : ℕ → ℕ
sign zero = 0
sign (suc n) = 1

-- The sum of h over the elements of a list.
unfoldable pub sum : {A : Type 0} → (A → ℕ) → List A → ℕ
sum h [] = 0
sum h (x ∷ xs) = h x + sum h xs

-- The sum of h 0, h 1, …, h (n − 1).
unfoldable pub sum_to : (ℕ → ℕ) → ℕ → ℕ
sum_to h zero = 0
sum_to h (suc n) = sum_to h n + h n

-- The least of top, h 0, h 1, …, h (n − 1).
unfoldable pub least_to : ℕ → (ℕ → ℕ) → ℕ → ℕ
least_to top h zero = top
least_to top h (suc n) = min (least_to top h n) (h n)

-- The greatest of h 0, h 1, …, h (n − 1), and 0 of none.
unfoldable pub greatest_to : (ℕ → ℕ) → ℕ → ℕ
greatest_to h zero = 0
greatest_to h (suc n) = max (greatest_to h n) (h n)

-- h holds of 0, 1, …, n − 1.
unfoldable pub all_to : (ℕ → Bool) → ℕ → Bool
all_to h zero = true
all_to h (suc n) = all_to h n && h n

-- x is an element of the list.
abbrev pub In : {A : Type 0} → A → List A → Type 0
In x [] = ⊥
In x (y ∷ ys) = (x ≡ y) ⊎ In x ys
