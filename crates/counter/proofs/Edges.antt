-- The tables of counter files hold, by computation.
use Prim.Native.Nat.{ℕ}
use mathlib.Core.List.{List, map}
use mathlib.Core.Path.{◌≡◌, refl}
use Rattle.words.specs.Words.{word_at}
use Rattle.outcome.specs.Tests.{first}
use Rattle.walks.specs.Sums.{sum_to, greatest_to}
use Rattle.walks.specs.Lists.{list_to, each}
use Rattle.model.specs.Made.{made_model}
use Rattle.onecounter.specs.Pushing.{rules_for}
use Rattle.onecounter.specs.Edges.{queue}
use Rattle.onecounter.proofs.Edges.{forever}
use Rattle.counter.specs.Records.{moves_in, byte_in, weight_in, states_in}
use Rattle.counter.specs.Moves.{move_of, moves_of}
use Rattle.counter.specs.Verdict.{whole_moves, move_in_range, move_ascends, move_tests, state_sum, state_tests, counter_tests, counter_verdict}
use Rattle.counter.specs.Made.{counter_record, made_counter, counter_model}
use Rattle.counter.specs.Edges.{outcome_of, outcome_due, length_cases, longest_cases, record_cases, order_cases, sum_cases, queue_file, queue_with, queue_model}

pub cases_answered : (map outcome_of length_cases ≡ map outcome_due length_cases) × (map outcome_of record_cases ≡ map outcome_due record_cases)
    × (map outcome_of order_cases ≡ map outcome_due order_cases) × (map outcome_of sum_cases ≡ map outcome_due sum_cases)
    × (map outcome_of longest_cases ≡ map outcome_due longest_cases)
unfolding counter_verdict counter_tests first each move_tests state_tests state_sum move_ascends move_in_range whole_moves states_in moves_in byte_in weight_in word_at sum_to greatest_to
cases_answered = (refl, refl, refl, refl, refl)

-- The bytes of the queue say its moves, and make its model.
pub queue_said : moves_of queue_file ≡ queue
unfolding moves_of list_to move_of moves_in byte_in weight_in word_at
queue_said = refl

pub queue_states : states_in queue_file ≡ 2
unfolding states_in greatest_to moves_in byte_in
queue_states = refl

-- A file of one level move, by which the count never changes.
abbrev pub level_file : List ℕ
level_file = counter_record 0 0 1 0 65536

pub level_said : moves_of level_file ≡ forever
unfolding moves_of list_to move_of moves_in byte_in weight_in word_at
level_said = refl

pub level_states : states_in level_file ≡ 1
unfolding states_in greatest_to moves_in byte_in
level_states = refl

pub queue_made : counter_model queue_file ≡ queue_model
unfolding counter_model made_model rules_for moves_of list_to move_of moves_in byte_in weight_in word_at
queue_made = refl

-- They are the bytes made of the moves.
pub queue_written : (queue_with 24576 ≡ queue_file) × (made_counter queue ≡ queue_file)
unfolding made_counter
queue_written = (refl, refl)
