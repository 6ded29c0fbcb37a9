-- The tests of a delivery's layout: document 01's 21 and 22.
use Rattle.std.specs.Prelude.{ℕ, ◌+◌, Bool, true, false, not, List, [], ◌∷◌, ◌++◌}
use Rattle.outcome.specs.declared.Reason.TheVariants.{NotDue, ValueOutOfRange}
use Rattle.outcome.specs.Tests.{Test, plain}
use Rattle.delivery.specs.declared.shape.Block.{Block}
use Rattle.delivery.specs.declared.shape.Block.TheVariants.{Uppers, Lowers, Means}
use Rattle.delivery.specs.declared.shape.Shape.{Shape}
use Rattle.delivery.specs.Records.{is_due, in_range}
use Rattle.delivery.specs.Shapes.{has_lowers, has_means, means_from}
use Rattle.walks.specs.Order.{entries_in, entry_at, row_at, each_entry, each_row}

-- Tests that stand only where a block does.
abbrev pub only_if : Bool → List Test → List Test
only_if true ts = ts
only_if false ts = []

-- The tests of record i: 21, then 22.
unfoldable pub record_tests : List ℕ → ℕ → Block → ℕ → ℕ → ℕ → List Test
record_tests d i k p z q = plain (not (is_due d i k p z q)) NotDue i ∷ plain (not (in_range d i k)) ValueOutOfRange i ∷ []

-- The records of each block of the file d.
unfoldable pub upper_records : ℕ → ℕ → List ℕ → List Test
upper_records s g d = each_entry s g (λ p z q. record_tests d (entry_at s g p z q) Uppers p z q)

unfoldable pub lower_records : ℕ → ℕ → List ℕ → List Test
lower_records s g d = each_entry s g (λ p z q. record_tests d (entries_in s g + entry_at s g p z q) Lowers p z q)

unfoldable pub mean_records : ℕ → ℕ → Shape → List ℕ → List Test
mean_records s g h d = each_row s g (λ p z. record_tests d (means_from s g h + row_at g p z) Means p z 0)

-- Record by record, for a file of shape h.
unfoldable pub layout_tests : ℕ → ℕ → Shape → List ℕ → List Test
layout_tests s g h d =
    upper_records s g d
    ++ (only_if (has_lowers h) (lower_records s g d)
    ++ only_if (has_means h) (mean_records s g h d))
