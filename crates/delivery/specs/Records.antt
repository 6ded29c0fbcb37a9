-- The records of a delivery file.
use Rattle.std.specs.Prelude.{ℕ, ◌+◌, ◌*◌, Bool, ◌&&◌, List, eqb, leb, get_or}
use Rattle.words.specs.Words.{word_at}
use Rattle.ppda.specs.Units.{most_chance, least_mean, most_mean}
use Rattle.delivery.specs.declared.shape.Block.{Block}
use Rattle.delivery.specs.declared.shape.Block.TheVariants.{Uppers, Lowers, Means}
use Rattle.delivery.specs.Format.{record_bytes, kind_byte, state_byte, symbol_byte, exit_byte, value_byte, upper_kind, lower_kind, mean_kind}

-- Byte k of record i.
unfoldable pub byte_of : List ℕ → ℕ → ℕ → ℕ
byte_of d i k = get_or d (record_bytes * i + k) 0

-- The kind, p, Z and q of record i.
abbrev pub kind_at : List ℕ → ℕ → ℕ
kind_at d i = byte_of d i kind_byte

abbrev pub state_at : List ℕ → ℕ → ℕ
state_at d i = byte_of d i state_byte

abbrev pub symbol_at : List ℕ → ℕ → ℕ
symbol_at d i = byte_of d i symbol_byte

abbrev pub exit_at : List ℕ → ℕ → ℕ
exit_at d i = byte_of d i exit_byte

-- The value of record i.
unfoldable pub value_at : List ℕ → ℕ → ℕ
value_at d i = word_at d (record_bytes * i + value_byte)

-- The kind of a block's records.
abbrev pub kind_of : Block → ℕ
kind_of Uppers = upper_kind
kind_of Lowers = lower_kind
kind_of Means = mean_kind

-- The least and the greatest value of a block.
abbrev pub least_of : Block → ℕ
least_of Uppers = 0
least_of Lowers = 0
least_of Means = least_mean

abbrev pub most_of : Block → ℕ
most_of Uppers = most_chance
most_of Lowers = most_chance
most_of Means = most_mean

-- Record i has the kind of the block and the p, Z, q due there, and its value is in the block's range.
unfoldable pub is_due : List ℕ → ℕ → Block → ℕ → ℕ → ℕ → Bool
is_due d i k p z q = eqb (kind_at d i) (kind_of k) && (eqb (state_at d i) p && (eqb (symbol_at d i) z && eqb (exit_at d i) q))

unfoldable pub in_range : List ℕ → ℕ → Block → Bool
in_range d i k = leb (least_of k) (value_at d i) && leb (value_at d i) (most_of k)
