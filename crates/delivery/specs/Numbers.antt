-- The numbers of a delivery as vectors: blocks ascend by (p, Z, q), mean steps by (p, Z).
use Rattle.std.specs.Prelude.{ℕ, ◌+◌, List}
use Rattle.ppda.specs.Equations.{Vector, RowVector}
use Rattle.delivery.specs.declared.shape.Shape.{Shape}
use Rattle.delivery.specs.Records.{value_at}
use Rattle.delivery.specs.Shapes.{means_from}
use Rattle.walks.specs.Order.{entries_in, entry_at, row_at}

-- The uppers, the lowers and the mean steps of a file.
unfoldable pub uppers_of : ℕ → ℕ → List ℕ → Vector
uppers_of s g d p z q = value_at d (entry_at s g p z q)

unfoldable pub lowers_of : ℕ → ℕ → List ℕ → Vector
lowers_of s g d p z q = value_at d (entries_in s g + entry_at s g p z q)

unfoldable pub means_of : ℕ → ℕ → Shape → List ℕ → RowVector
means_of s g h d p z = value_at d (means_from s g h + row_at g p z)
