-- The records of a counter file, one after the other with no header.
use Rattle.std.specs.Prelude.{ℕ, suc, ◌+◌, ◌*◌, ◌/◌, max, List, [], ◌∷◌, length, get_or}
use Rattle.words.specs.Words.{word_at}
use Rattle.walks.specs.Sums.{greatest_to}
use Rattle.counter.specs.Format.{record_bytes, from_byte, to_byte, shift_byte, zero_byte, weight_byte}

-- How many whole records, and so moves, the file has.
unfoldable pub moves_in : List ℕ → ℕ
moves_in c = length c / record_bytes

-- Byte k of record i.
unfoldable pub byte_in : List ℕ → ℕ → ℕ → ℕ
byte_in c i k = get_or c (record_bytes * i + k) 0

-- u, v, d and the zero byte of request A.2.
abbrev pub from_at : List ℕ → ℕ → ℕ
from_at c i = byte_in c i from_byte

abbrev pub to_at : List ℕ → ℕ → ℕ
to_at c i = byte_in c i to_byte

abbrev pub shift_at : List ℕ → ℕ → ℕ
shift_at c i = byte_in c i shift_byte

abbrev pub zero_at : List ℕ → ℕ → ℕ
zero_at c i = byte_in c i zero_byte

-- The weight, four bytes with the low byte first.
unfoldable pub weight_in : List ℕ → ℕ → ℕ
weight_in c i = word_at c (record_bytes * i + weight_byte)

-- (u, v, d), by which records ascend.
abbrev pub move_key : List ℕ → ℕ → List ℕ
move_key c i = from_at c i ∷ to_at c i ∷ shift_at c i ∷ []

-- The greatest state that record i names, as u or as v, and how many states there are: 0 to the greatest that is named.
abbrev pub state_in : List ℕ → ℕ → ℕ
state_in c i = max (from_at c i) (to_at c i)

unfoldable pub states_in : List ℕ → ℕ
states_in c = suc (greatest_to (state_in c) (moves_in c))
