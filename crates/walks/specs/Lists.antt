-- Lists made by walks over the numbers 0, 1, …, n − 1, and all lists of a length.
use Rattle.std.specs.Prelude.{ℕ, zero, suc}
use mathlib.Core.List.{List, [], ◌∷◌, ◌++◌, map, flat_map}

module _ {A : Type 0} where
  -- h 0, h 1, …, h (n − 1).
  unfoldable pub list_to : (ℕ → A) → ℕ → List A
  list_to h zero = []
  list_to h (suc n) = list_to h n ++ (h n ∷ [])

  -- The lists h 0, h 1, …, h (n − 1), one after the other.
  unfoldable pub each : ℕ → (ℕ → List A) → List A
  each zero h = []
  each (suc n) h = each n h ++ h n

  -- All lists of j elements of a list.
  unfoldable pub lists : List A → ℕ → List (List A)
  lists m zero = [] ∷ []
  lists m (suc j) = flat_map (λ x. map (λ l. x ∷ l) (lists m j)) m
