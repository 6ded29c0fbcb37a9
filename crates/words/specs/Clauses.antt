-- What writing a number into a buffer leaves there.
use Rattle.std.specs.Prelude.{ℕ, ◌+◌, List, ◌++◌, length, take, drop}

-- The list with these bytes in the place of those from `at` on.
abbrev pub written : List ℕ → ℕ → List ℕ → List ℕ
written l at bytes = take at l ++ (bytes ++ drop (at + length bytes) l)
