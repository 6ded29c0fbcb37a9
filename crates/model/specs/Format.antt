-- The format of a model file and its limits (document 01, "Models"): each number stands here once, and
-- those that the code uses under the same name in src/format.rt. proofs/Limits.antt holds them to each other.
use Rattle.std.specs.Prelude.{ℕ}

-- A record is 10 bytes: p, Z, q, L, Y and X of one byte each, and the weight of four, at these bytes of it.
abbrev pub record_bytes : ℕ
record_bytes = 10

abbrev pub state_byte : ℕ
state_byte = 0

abbrev pub symbol_byte : ℕ
symbol_byte = 1

abbrev pub target_byte : ℕ
target_byte = 2

abbrev pub pushes_byte : ℕ
pushes_byte = 3

abbrev pub top_byte : ℕ
top_byte = 4

abbrev pub under_byte : ℕ
under_byte = 5

abbrev pub weight_byte : ℕ
weight_byte = 6

-- The base of the number by which records are compared, of which each byte is a digit (request A.4).
abbrev pub key_base : ℕ
key_base = 256

-- At most 1,024 records, so 10,240 bytes.
abbrev pub most_records : ℕ
most_records = 1024

abbrev pub most_bytes : ℕ
most_bytes = 10240

-- States are 0 to 7 and symbols 0 to 15, so that there are at most 128 rows and 1,024 entries. A rule pushes at most 2 symbols.
abbrev pub most_states : ℕ
most_states = 8

abbrev pub most_symbols : ℕ
most_symbols = 16

abbrev pub most_pushes : ℕ
most_pushes = 2

abbrev pub most_rows : ℕ
most_rows = 128

abbrev pub most_entries : ℕ
most_entries = 1024
