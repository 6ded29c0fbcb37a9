-- The tests of records as the code goes through them: those of a record by itself, that of its order by numbers, and the sizes found on the way.
use Rattle.std.specs.Prelude.{ℕ, ◌+◌, Bool, not, List, [], ◌∷◌, ◌≡◌}
use Rattle.outcome.specs.declared.Reason.TheVariants.{OutOfRange, UnusedNotZero, WeightOutOfRange}
use Rattle.outcome.specs.Tests.{Test, plain}
use Rattle.model.specs.Records.{key}
use Rattle.model.specs.Numbers.{Digits, key_bases, key_number}
use Rattle.wellformed.specs.Verdict.{range_at, unused_at, weight_at, ascends}

-- The tests of record i but that of its order.
unfoldable pub own_tests : List ℕ → ℕ → List Test
own_tests b i =
    plain (not (range_at b i)) OutOfRange i
    ∷ plain (not (unused_at b i)) UnusedNotZero i
    ∷ plain (not (weight_at b i)) WeightOutOfRange i
    ∷ []

-- n is the number of record i, each of whose fields is below its base.
pub record Numbered (b : List ℕ) (i n : ℕ) : Type 0 where
  pub digits : Digits key_bases (key b i)
  pub number : n ≡ key_number (key b i)

-- n is the number of the record before record i, if there is one.
abbrev pub NumberedBefore : List ℕ → ℕ → ℕ → Type 0
NumberedBefore b i n = (j : ℕ) → i ≡ j + 1 → Numbered b j n

-- t tells whether record i lies above the one before it, in any file where these are their numbers.
abbrev pub TellsOrder : ℕ → ℕ → ℕ → Bool → Type 0
TellsOrder i before number t = (b : List ℕ) → NumberedBefore b i before → Numbered b i number → t ≡ ascends b i
