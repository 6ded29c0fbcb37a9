-- A buffer with text in it, as the code fills it.
use Rattle.std.specs.Prelude.{ℕ, ◌+◌, ◌*◌, List, ◌++◌, [], ◌∷◌, ◌≡◌, length, take}
use Rattle.text.specs.Decimal.{decimal}

-- After the first `at` bytes of the buffer `before`, the buffer `after`, which is as long, has the text, which ends at byte `end`.
-- What stands from there on is free.
pub record Put (before after : List ℕ) (at end : ℕ) (text : List ℕ) : Type 0 where
  pub size : length after ≡ length before
  pub long : end ≡ at + length text
  pub puts : take end after ≡ take at before ++ text

-- The most bytes that a word takes with numbers below 2^64, each after a space.
abbrev pub fields_room : List ℕ → List ℕ → ℕ
fields_room word numbers = length word + 21 * length numbers

-- Numbers in decimal, each after a space.
abbrev pub spaced : List ℕ → List ℕ
spaced [] = []
spaced (n ∷ ns) = 32 ∷ (decimal n ++ spaced ns)
