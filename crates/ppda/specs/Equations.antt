-- The equations of document 001, in whole numbers multiplied out.
use Rattle.std.specs.Prelude.{ℕ, ◌+◌, ◌*◌, List, ◌≡◌, eqb, get_or}
use Rattle.walks.specs.Sums.{bit, sum_to}
use Rattle.ppda.specs.Units.{weight_unit}
use Rattle.walks.specs.Order.{row_at, entry_at, AtRows, AtEntries}
use Rattle.ppda.specs.Rules.{Rule, Push, nothing, one, two, over_row}

-- A number for each entry (p, z, q): uppers, lowers or chances.
abbrev pub Vector : Type 0
Vector = ℕ → ℕ → ℕ → ℕ

-- A number for each row (p, z): mean steps, document 01's R.
abbrev pub RowVector : Type 0
RowVector = ℕ → ℕ → ℕ

-- Two vectors are the same at every entry of a model with s states and g symbols, and two row vectors at every row.
abbrev pub Same : ℕ → ℕ → Vector → Vector → Type 0
Same s g v u = AtEntries s g (λ p z q. v p z q ≡ u p z q)

abbrev pub SameRows : ℕ → ℕ → RowVector → RowVector → Type 0
SameRows s g e k = AtRows s g (λ p z. e p z ≡ k p z)

-- The vector of a list in the order of files, and the same for rows.
abbrev pub entries : ℕ → ℕ → List ℕ → Vector
entries s g l p z q = get_or l (entry_at s g p z q) 0

abbrev pub rows : ℕ → List ℕ → RowVector
rows g l p z = get_or l (row_at g p z) 0

-- From state r with a rule's pushed symbols alone, the chance v of emptying the stack in q. v counts 1/d, and this 1/(d·d).
abbrev pub through : ℕ → ℕ → Vector → ℕ → Push → ℕ → ℕ
through s d v r nothing q = d * d * bit (eqb r q)
through s d v r (one y) q = d * v r y q
through s d v r (two y x) q = sum_to (λ t. v r y t * v t x q) s

-- f of document 001, Theorem 1, for s states. v counts 1/d, and f counts 1/(65536·d·d).
unfoldable pub f : List Rule → ℕ → ℕ → Vector → Vector
f m s d v p z q = over_row m p z (λ r. through s d v r.target r.push q)

-- From state r with a rule's pushed symbols alone, the mean steps by the rows' mean steps e and the chances u. u counts 1/d, e counts
-- 1/h, and this 1/(d·h).
abbrev pub steps_through : ℕ → ℕ → Vector → RowVector → ℕ → Push → ℕ
steps_through s d u e r nothing = 0
steps_through s d u e r (one y) = d * e r y
steps_through s d u e r (two y x) = d * e r y + sum_to (λ t. u r y t * e t x) s

-- The right side of the mean steps' inequality (document 001, Theorems 7 and 8; spelled out in document 01): 1 plus, over the
-- rules, the chance times the mean steps of what is pushed. It counts 1/(65536·d·h).
unfoldable pub mean_side : List Rule → ℕ → ℕ → ℕ → Vector → RowVector → RowVector
mean_side m s d h u e p z = weight_unit * (d * h) + over_row m p z (λ r. steps_through s d u e r.target r.push)
