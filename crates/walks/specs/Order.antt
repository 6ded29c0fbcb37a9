-- The order of files: rows ascend by (p, z), and entries by (p, z, q) (document 01, "Deliveries"). And the order by exit, in which the register holds uppers and
-- lowers (request A.6).
use Rattle.std.specs.Prelude.{ℕ, ◌+◌, ◌*◌, ◌<◌, ◌/◌, ◌%◌, List}
use Rattle.walks.specs.Lists.{each}

-- How many rows (p, z) a model with s states and g symbols has, and V, how many entries (p, z, q).
abbrev pub rows_in : ℕ → ℕ → ℕ
rows_in s g = s * g

abbrev pub entries_in : ℕ → ℕ → ℕ
entries_in s g = rows_in s g * s

-- The number of the row (p, z) among them, of the entry with exit q of row number k, and so of the entry (p, z, q).
abbrev pub row_at : ℕ → ℕ → ℕ → ℕ
row_at g p z = p * g + z

abbrev pub entry_in : ℕ → ℕ → ℕ → ℕ
entry_in s k q = k * s + q

abbrev pub entry_at : ℕ → ℕ → ℕ → ℕ → ℕ → ℕ
entry_at s g p z q = entry_in s (row_at g p z) q

-- Request A.6: the place of the entry (p, z, q) in a list by exit, which ascends by (q, p, z), and that of the entry with exit q of row number k (law `exit_rows`).
abbrev pub exit_place : ℕ → ℕ → ℕ → ℕ → ℕ → ℕ
exit_place s g p z q = (q * s + p) * g + z

abbrev pub exit_in : ℕ → ℕ → ℕ → ℕ → ℕ
exit_in s g k q = q * rows_in s g + k

-- A statement about every row, and about every entry.
abbrev pub AtRows : ℕ → ℕ → (ℕ → ℕ → Type 0) → Type 0
AtRows s g P = (p z : ℕ) → p < s → z < g → P p z

abbrev pub AtEntries : ℕ → ℕ → (ℕ → ℕ → ℕ → Type 0) → Type 0
AtEntries s g P = (p z q : ℕ) → p < s → z < g → q < s → P p z q

-- What h says of row number k of a model with g symbols, which is (k / g, k % g): rows ascend in the order of p and Z.
abbrev pub by_row : {A : Type 0} → ℕ → (ℕ → ℕ → A) → ℕ → A
by_row g h k = h (k / g) (k % g)

-- What h says of entry number e of a model with s states, which is exit e % s of row number e / s: entries ascend in the order of p, Z and q.
abbrev pub by_entry : {A : Type 0} → ℕ → ℕ → (ℕ → ℕ → ℕ → A) → ℕ → A
by_entry s g h e = by_row g h (e / s) (e % s)

-- What h says of place i of a list by exit, which is that of the entry (i / g % s, i % g, i / g / s): entries ascend in the order of q, p and Z (request A.6).
abbrev pub by_exit : {A : Type 0} → ℕ → ℕ → (ℕ → ℕ → ℕ → A) → ℕ → A
by_exit s g h i = h (i / g % s) (i % g) (i / g / s)

-- The lists of every row, and of every entry, one after the other in the order of files.
unfoldable pub each_row : {A : Type 0} → ℕ → ℕ → (ℕ → ℕ → List A) → List A
each_row s g h = each s (λ p. each g (h p))

unfoldable pub each_entry : {A : Type 0} → ℕ → ℕ → (ℕ → ℕ → ℕ → List A) → List A
each_entry s g h = each s (λ p. each g (λ z. each s (h p z)))
