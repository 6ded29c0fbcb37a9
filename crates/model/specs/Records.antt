-- The records of a model file, one after the other with no header.
use Rattle.std.specs.Prelude.{ℕ, suc, ◌+◌, ◌*◌, ◌/◌, max, List, [], ◌∷◌, length, get_or}
use Rattle.words.specs.Words.{word_at}
use Rattle.model.specs.Format.{record_bytes, state_byte, symbol_byte, target_byte, pushes_byte, top_byte, under_byte, weight_byte}
use Rattle.walks.specs.Sums.{greatest_to}

-- How many whole records the file has.
unfoldable pub records_of : List ℕ → ℕ
records_of b = length b / record_bytes

-- Byte k of record i.
unfoldable pub field : List ℕ → ℕ → ℕ → ℕ
field b i k = get_or b (record_bytes * i + k) 0

-- p, Z, q, L, Y, X of document 01: in this state, with this symbol on top, go to this target and push so many symbols, the new top and
-- what lies under it.
abbrev pub state : List ℕ → ℕ → ℕ
state b i = field b i state_byte

abbrev pub symbol : List ℕ → ℕ → ℕ
symbol b i = field b i symbol_byte

abbrev pub target : List ℕ → ℕ → ℕ
target b i = field b i target_byte

abbrev pub pushes : List ℕ → ℕ → ℕ
pushes b i = field b i pushes_byte

abbrev pub top : List ℕ → ℕ → ℕ
top b i = field b i top_byte

abbrev pub under : List ℕ → ℕ → ℕ
under b i = field b i under_byte

-- The weight, four bytes with the low byte first.
unfoldable pub weight : List ℕ → ℕ → ℕ
weight b i = word_at b (record_bytes * i + weight_byte)

-- What record i says but its weight, by which records ascend.
abbrev pub key : List ℕ → ℕ → List ℕ
key b i = state b i ∷ symbol b i ∷ target b i ∷ pushes b i ∷ top b i ∷ under b i ∷ []

-- The greatest state and the greatest symbol that record i names. An unused Y or X is 0, so it names no greater symbol.
abbrev pub state_named : List ℕ → ℕ → ℕ
state_named b i = max (state b i) (target b i)

abbrev pub symbol_named : List ℕ → ℕ → ℕ
symbol_named b i = max (symbol b i) (max (top b i) (under b i))

-- s, one more than the greatest state named in any record.
unfoldable pub states_of : List ℕ → ℕ
states_of b = suc (greatest_to (state_named b) (records_of b))

-- g, one more than the greatest symbol named.
unfoldable pub symbols_of : List ℕ → ℕ
symbols_of b = suc (greatest_to (symbol_named b) (records_of b))
