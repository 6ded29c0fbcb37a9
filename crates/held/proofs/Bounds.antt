-- What the tests of a row and of an entry say, and the number of a row or of an entry by whether the model has it.
use Prim.Native.Nat.{ℕ, ◌<◌}
use mathlib.Core.Bool.{true, false}
use mathlib.Core.List.{List}
use mathlib.Core.Logic.{◌↔◌}
use mathlib.Core.Path.{◌≡◌}
use lib.Dec.{ltb}
use Rattle.walks.proofs.Exactly.{lt_exactly, both}
use Rattle.ppda.specs.Equations.{entries, rows}
use Rattle.held.specs.Places.{has_row, has_entry, row_value, entry_value, entries_by_exit, exit_value}

pub row_exactly : (s g p z : ℕ) → (has_row s g p z ≡ true) ↔ ((p < s) × (z < g))
unfolding has_row
row_exactly s g p z = both (ltb p s) (ltb z g) (lt_exactly p s) (lt_exactly z g)

pub entry_exactly : (s g p z q : ℕ) → (has_entry s g p z q ≡ true) ↔ (((p < s) × (z < g)) × (q < s))
unfolding has_entry
entry_exactly s g p z q = both (has_row s g p z) (ltb q s) (row_exactly s g p z) (lt_exactly q s)

pub no_row : (s g : ℕ) (l : List ℕ) (p z : ℕ) → has_row s g p z ≡ false → row_value s g l p z ≡ 0
unfolding row_value
no_row s g l p z e = rw e

pub row_there : (s g : ℕ) (l : List ℕ) (p z : ℕ) → has_row s g p z ≡ true → row_value s g l p z ≡ rows g l p z
unfolding row_value
row_there s g l p z e = rw e

pub no_entry : (s g : ℕ) (l : List ℕ) (p z q : ℕ) → has_entry s g p z q ≡ false → entry_value s g l p z q ≡ 0
unfolding entry_value
no_entry s g l p z q e = rw e

pub entry_there : (s g : ℕ) (l : List ℕ) (p z q : ℕ) → has_entry s g p z q ≡ true → entry_value s g l p z q ≡ entries s g l p z q
unfolding entry_value
entry_there s g l p z q e = rw e

pub no_exit : (s g : ℕ) (l : List ℕ) (p z q : ℕ) → has_entry s g p z q ≡ false → exit_value s g l p z q ≡ 0
unfolding exit_value
no_exit s g l p z q e = rw e

pub exit_there : (s g : ℕ) (l : List ℕ) (p z q : ℕ) → has_entry s g p z q ≡ true → exit_value s g l p z q ≡ entries_by_exit s g l p z q
unfolding exit_value
exit_there s g l p z q e = rw e
