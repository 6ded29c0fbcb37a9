-- What functions over a model file ask or tell: its sizes and records, where a row starts, and that it is accepted.
use Rattle.std.specs.Prelude.{ℕ, suc, ◌≤◌, ◌<◌, ◌+◌, ◌*◌, List, ◌≡◌, length}
use Rattle.model.specs.declared.sizes.Sizes.{Sizes}
use Rattle.model.specs.Records.{states_of, symbols_of, records_of, state_named, symbol_named}
use Rattle.model.specs.Accepted.{ModelFile}
use Rattle.model.specs.Rules.{row_of}
use Rattle.walks.specs.Sums.{greatest_to}
use Rattle.walks.specs.Order.{rows_in, entries_in}
use Rattle.model.specs.Format.{most_states, most_symbols, most_rows, most_entries, record_bytes}

-- An accepted model file with s states and g symbols.
pub record Sized (b : List ℕ) (s g : ℕ) : Type 0 where
  pub file : ModelFile b
  pub states : s ≡ states_of b
  pub symbols : g ≡ symbols_of b

-- Row number k starts at record a: every record before it is of an earlier row, and every other of row k or later.
pub record StartsAt (b : List ℕ) (g k a : ℕ) : Type 0 where
  pub within : a ≤ records_of b
  pub before : (i : ℕ) → i < a → row_of b g i < k
  pub after : (i : ℕ) → a ≤ i → i < records_of b → k ≤ row_of b g i

-- s states and g symbols fit: at least one of each, and no more of them, nor of rows and entries, than the limits.
pub record Fits (s g : ℕ) : Type 0 where
  pub some_states : 1 ≤ s
  pub some_symbols : 1 ≤ g
  pub few_states : s ≤ most_states
  pub few_symbols : g ≤ most_symbols
  pub few_rows : rows_in s g ≤ most_rows
  pub few_entries : entries_in s g ≤ most_entries

-- Sizes of two bytes or less, whether they fit or not: no place among them overflows.
pub record Narrow (s g : ℕ) : Type 0 where
  pub states : s < 65536
  pub symbols : g < 65536

-- n are the sizes of the first i records, one more than the greatest state and symbol that these name, and 1 of each where there are none; neither
-- is above 65,536.
pub record SizesTo (b : List ℕ) (i : ℕ) (n : Sizes) : Type 0 where
  pub states : n.states ≡ suc (greatest_to (state_named b) i)
  pub symbols : n.symbols ≡ suc (greatest_to (symbol_named b) i)
  pub few_states : n.states ≤ 65536
  pub few_symbols : n.symbols ≤ 65536

-- Record i is whole in the file.
abbrev pub HasRecord : List ℕ → ℕ → Type 0
HasRecord b i = record_bytes * (i + 1) ≤ length b
