-- The limits hold together: the longest file has the most records, and rows and entries are as many as states and symbols allow.
use Prim.Native.Nat.{◌*◌}
use mathlib.Core.Path.{◌≡◌, refl}
use Rattle.walks.specs.Order.{rows_in, entries_in}
use Rattle.model.specs.Format.{record_bytes, most_records, most_bytes, most_states, most_symbols, most_rows, most_entries}

pub most_bytes_lem : most_bytes ≡ record_bytes * most_records
most_bytes_lem = refl

pub most_rows_lem : most_rows ≡ rows_in most_states most_symbols
most_rows_lem = refl

pub most_entries_lem : most_entries ≡ entries_in most_states most_symbols
most_entries_lem = refl
