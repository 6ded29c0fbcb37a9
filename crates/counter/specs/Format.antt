-- The format of a counter file and its limits (request A.2): each number stands here once, and those that the code uses under the same name in
-- src/format.rt. States are those of a model.
use Rattle.std.specs.Prelude.{ℕ}

-- A record is 8 bytes: u, v, d and a zero byte, and the weight of four, at these bytes of it.
abbrev pub record_bytes : ℕ
record_bytes = 8

abbrev pub from_byte : ℕ
from_byte = 0

abbrev pub to_byte : ℕ
to_byte = 1

abbrev pub shift_byte : ℕ
shift_byte = 2

abbrev pub zero_byte : ℕ
zero_byte = 3

abbrev pub weight_byte : ℕ
weight_byte = 4

-- d is at most 2. There are at most 8 × 8 × 3 records, so 1,536 bytes.
abbrev pub most_shift : ℕ
most_shift = 2

abbrev pub most_records : ℕ
most_records = 192

abbrev pub most_bytes : ℕ
most_bytes = 1536
