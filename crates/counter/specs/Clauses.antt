-- What functions over a counter file ask and leave.
use Rattle.std.specs.Prelude.{ℕ, ◌+◌, ◌*◌, ◌≤◌, List, ◌≡◌, length, take}
use Rattle.model.specs.Format as model
use Rattle.model.specs.Made.{model_record}
use Rattle.counter.specs.Format.{record_bytes, most_records}
use Rattle.counter.specs.Records.{from_at, to_at, shift_at, weight_in}
use Rattle.counter.specs.Made.{counter_model}

-- Record i is whole in the file.
abbrev pub HasMove : List ℕ → ℕ → Type 0
HasMove c i = record_bytes * (i + 1) ≤ length c

-- The ten bytes of the model record that record i makes.
abbrev pub record_made : List ℕ → ℕ → List ℕ
record_made c i = model_record (from_at c i) 0 (to_at c i) (shift_at c i) 0 0 (weight_in c i)

-- The bytes of the longest model that is made.
abbrev pub made_bytes : ℕ
made_bytes = model.record_bytes * most_records

-- The first n bytes of a buffer are the model that the file makes.
pub record Makes (c out : List ℕ) (n : ℕ) : Type 0 where
  pub room : n ≤ length out
  pub made : take n out ≡ counter_model c
