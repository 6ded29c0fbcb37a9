-- The verdict on a counter file: request A.2's tests 46, 47 and 48, in that order.
use Rattle.std.specs.Prelude.{ℕ, zero, suc, ◌*◌, ◌%◌, Bool, true, not, ◌&&◌, List, [], ◌∷◌, ◌++◌, eqb, leb, ltb, length}
use Rattle.outcome.specs.declared.Reason.TheVariants.{CounterLength, CounterRecord, CounterSum}
use Rattle.outcome.specs.Tests.{Test, plain, first}
use Rattle.walks.specs.Sums.{bit, sum_to}
use Rattle.walks.specs.Lists.{each}
use Rattle.ppda.specs.Units.{weight_unit}
use Rattle.model.specs.Format.{most_states}
use Rattle.wellformed.specs.Verdict.{above}
use Rattle.counter.specs.Format.{record_bytes, most_shift, most_bytes}
use Rattle.counter.specs.Records.{moves_in, from_at, to_at, shift_at, zero_at, weight_in, move_key, states_in}
use Rattle.outcome.specs.Outcomes.{Outcome}

-- A file of n bytes has whole records, at least one and at most 192.
unfoldable pub whole_moves : ℕ → Bool
whole_moves n = ltb 0 n && (eqb (n % record_bytes) 0 && leb n most_bytes)

-- The states and d of record i are in range, the fourth byte is 0, and the weight is from 1 to 65,536.
unfoldable pub move_in_range : List ℕ → ℕ → Bool
move_in_range c i =
    ltb (from_at c i) most_states
    && (ltb (to_at c i) most_states
    && (leb (shift_at c i) most_shift
    && (eqb (zero_at c i) 0 && (ltb 0 (weight_in c i) && leb (weight_in c i) weight_unit))))

-- Record i lies above the record before it, if there is one, by (u, v, d).
unfoldable pub move_ascends : List ℕ → ℕ → Bool
move_ascends c zero = true
move_ascends c (suc i) = above (move_key c (suc i)) (move_key c i)

-- The test of record i.
unfoldable pub move_tests : List ℕ → ℕ → List Test
move_tests c i = plain (not (move_in_range c i && move_ascends c i)) CounterRecord i ∷ []

-- The sum of the weights of state u, and its test.
unfoldable pub state_sum : List ℕ → ℕ → ℕ
state_sum c u = sum_to (λ i. bit (eqb (from_at c i) u) * weight_in c i) (moves_in c)

unfoldable pub state_tests : List ℕ → ℕ → List Test
state_tests c u = plain (not (eqb (state_sum c u) weight_unit)) CounterSum u ∷ []

-- The tests of a counter file: its length; then record by record; then state by state.
unfoldable pub counter_tests : List ℕ → List Test
counter_tests c =
    plain (not (whole_moves (length c))) CounterLength 0
    ∷ (each (moves_in c) (move_tests c) ++ each (states_in c) (state_tests c))

-- The verdict on a counter file.
unfoldable pub counter_verdict : List ℕ → Outcome
counter_verdict c = first (counter_tests c)
