-- The format of a delivery file (document 01, "Deliveries"): each number stands here once, and under the same name in src/format.rt. The units and
-- the ranges of values stand in crate ppda (Units.antt), since the theory speaks of them.
use Rattle.std.specs.Prelude.{ℕ, ◌+◌}
use Rattle.model.specs.Format.{most_rows, most_entries}

-- A record is 8 bytes: kind, p, Z and q of one byte each, and the value of four, at these bytes of it.
abbrev pub record_bytes : ℕ
record_bytes = 8

abbrev pub kind_byte : ℕ
kind_byte = 0

abbrev pub state_byte : ℕ
state_byte = 1

abbrev pub symbol_byte : ℕ
symbol_byte = 2

abbrev pub exit_byte : ℕ
exit_byte = 3

abbrev pub value_byte : ℕ
value_byte = 4

-- The kinds: the letters U, L and R.
abbrev pub upper_kind : ℕ
upper_kind = 85

abbrev pub lower_kind : ℕ
lower_kind = 76

abbrev pub mean_kind : ℕ
mean_kind = 82

-- The longest delivery has uppers, lowers and mean steps.
abbrev pub most_records : ℕ
most_records = most_entries + most_entries + most_rows
