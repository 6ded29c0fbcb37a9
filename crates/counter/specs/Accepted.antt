-- An accepted counter file in plain words: none of request A.2's reasons 46 to 48 applies.
use Rattle.std.specs.Prelude.{ℕ, suc, ◌*◌, ◌≤◌, ◌<◌, List, ◌≡◌, length}
use Rattle.ppda.specs.Units.{weight_unit}
use Rattle.model.specs.Format.{most_states}
use Rattle.model.specs.Accepted.{Above}
use Rattle.onecounter.specs.Moves.{IsMachine}
use Rattle.counter.specs.Format.{record_bytes, most_shift, most_records}
use Rattle.counter.specs.Records.{moves_in, from_at, to_at, shift_at, zero_at, weight_in, move_key, states_in}
use Rattle.counter.specs.Moves.{moves_of}

-- Record i has every number in range, and its fourth byte is 0 (47).
pub record MoveRight (c : List ℕ) (i : ℕ) : Type 0 where
  pub from_range : from_at c i < most_states
  pub to_range : to_at c i < most_states
  pub shift_range : shift_at c i ≤ most_shift
  pub fourth_zero : zero_at c i ≡ 0
  pub weight_some : 1 ≤ weight_in c i
  pub weight_most : weight_in c i ≤ weight_unit

-- 1 to 192 whole records (46), each right, and each above the one before it (47).
pub record MovesRight (c : List ℕ) : Type 0 where
  pub some : 1 ≤ moves_in c
  pub most : moves_in c ≤ most_records
  pub whole : length c ≡ record_bytes * moves_in c
  pub right : (i : ℕ) → i < moves_in c → MoveRight c i
  pub ascending : (i : ℕ) → suc i < moves_in c → Above (move_key c (suc i)) (move_key c i)

-- A counter file: its records are right, and they are a machine, so that each state's weights sum to 65,536 (48).
pub record CounterFile (c : List ℕ) : Type 0 where
  pub records : MovesRight c
  pub machine : IsMachine (states_in c) (moves_of c)
