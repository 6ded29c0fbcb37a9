-- The verdict on a model file: document 01's list 10 to 15, top to bottom.
use Rattle.std.specs.Prelude.{ℕ, zero, suc, ◌%◌, Bool, true, false, not, ◌&&◌, ◌||◌, List, [], ◌∷◌, ◌++◌, eqb, leb, ltb, length}
use Rattle.outcome.specs.declared.Reason.TheVariants.{ModelLength, OutOfRange, UnusedNotZero, WeightOutOfRange, NotAscending, RowSumWrong}
use Rattle.outcome.specs.Tests.{Test, plain, first}
use Rattle.walks.specs.Lists.{each}
use Rattle.ppda.specs.Units.{weight_unit}
use Rattle.walks.specs.Order.{rows_in}
use Rattle.model.specs.Format.{record_bytes, most_bytes, most_states, most_symbols, most_pushes}
use Rattle.model.specs.Records.{records_of, states_of, symbols_of, state, symbol, target, pushes, top, under, weight, key}
use Rattle.model.specs.Rules.{row_sum}
use Rattle.outcome.specs.Outcomes.{Outcome}

-- A file of n bytes has whole records, at least one and at most 1,024.
unfoldable pub whole_records : ℕ → Bool
whole_records n = ltb 0 n && (eqb (n % record_bytes) 0 && leb n most_bytes)

-- p, Z, q, L, Y and X of record i are in range.
unfoldable pub range_at : List ℕ → ℕ → Bool
range_at b i =
    ltb (state b i) most_states
    && (ltb (symbol b i) most_symbols
    && (ltb (target b i) most_states
    && (leb (pushes b i) most_pushes && (ltb (top b i) most_symbols && ltb (under b i) most_symbols))))

-- Y is 0 when L is 0, and X is 0 unless L is 2.
unfoldable pub unused_at : List ℕ → ℕ → Bool
unused_at b i = (ltb 0 (pushes b i) || eqb (top b i) 0) && (eqb (pushes b i) 2 || eqb (under b i) 0)

-- The weight is from 1 to 65,536.
unfoldable pub weight_at : List ℕ → ℕ → Bool
weight_at b i = ltb 0 (weight b i) && leb (weight b i) weight_unit

-- One list of numbers lies above another of the same length: it is greater where they first differ.
abbrev pub above : List ℕ → List ℕ → Bool
above [] ys = false
above (a ∷ xs) [] = false
above (a ∷ xs) (b ∷ ys) = ltb b a || (eqb a b && above xs ys)

-- Record i lies above the record before it, if there is one.
unfoldable pub ascends : List ℕ → ℕ → Bool
ascends b zero = true
ascends b (suc i) = above (key b (suc i)) (key b i)

-- The tests of record i.
unfoldable pub record_tests : List ℕ → ℕ → List Test
record_tests b i =
    plain (not (range_at b i)) OutOfRange i
    ∷ plain (not (unused_at b i)) UnusedNotZero i
    ∷ plain (not (weight_at b i)) WeightOutOfRange i
    ∷ plain (not (ascends b i)) NotAscending i
    ∷ []

-- The test of row number k = p × g + Z. "Row" is document 01's term for a pair (p, Z).
unfoldable pub row_tests : List ℕ → ℕ → List Test
row_tests b k = plain (not (eqb (row_sum b (symbols_of b) k) weight_unit)) RowSumWrong k ∷ []

-- The tests of all rows, in the order of their numbers.
unfoldable pub rows_tests : List ℕ → List Test
rows_tests b = each (rows_in (states_of b) (symbols_of b)) (row_tests b)

-- The tests of a model file: its length; then record by record; then row by row.
unfoldable pub model_tests : List ℕ → List Test
model_tests b =
    plain (not (whole_records (length b))) ModelLength 0
    ∷ (each (records_of b) (record_tests b) ++ rows_tests b)

-- The verdict on a model file.
unfoldable pub model_verdict : List ℕ → Outcome
model_verdict b = first (model_tests b)
