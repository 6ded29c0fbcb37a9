-- A held number by its entry or its row.
use Rattle.std.specs.Prelude.{ℕ, Bool, cond, ◌&&◌, List, ltb, get_or}
use Rattle.walks.specs.Order.{exit_place}
use Rattle.ppda.specs.Equations.{Vector, entries, rows}

-- Whether a model with s states and g symbols has the row (p, z), and the entry (p, z, q).
unfoldable pub has_row : ℕ → ℕ → ℕ → ℕ → Bool
has_row s g p z = ltb p s && ltb z g

unfoldable pub has_entry : ℕ → ℕ → ℕ → ℕ → ℕ → Bool
has_entry s g p z q = has_row s g p z && ltb q s

-- The vector of a list by exit (request A.6), as `entries` is that of a list in file order.
abbrev pub entries_by_exit : ℕ → ℕ → List ℕ → Vector
entries_by_exit s g l p z q = get_or l (exit_place s g p z q) 0

-- What a list in file order holds for a row, and for an entry; 0 where the model has none such.
unfoldable pub row_value : ℕ → ℕ → List ℕ → ℕ → ℕ → ℕ
row_value s g l p z = cond (has_row s g p z) (rows g l p z) 0

unfoldable pub entry_value : ℕ → ℕ → List ℕ → ℕ → ℕ → ℕ → ℕ
entry_value s g l p z q = cond (has_entry s g p z q) (entries s g l p z q) 0

-- What a list by exit holds for an entry; 0 where the model has none such.
unfoldable pub exit_value : ℕ → ℕ → List ℕ → ℕ → ℕ → ℕ → ℕ
exit_value s g l p z q = cond (has_entry s g p z q) (entries_by_exit s g l p z q) 0
