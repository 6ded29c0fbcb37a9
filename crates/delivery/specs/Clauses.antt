-- Parts of a delivery, and blocks in range: what functions ask of the bytes that they are given.
use Rattle.std.specs.Prelude.{ℕ, ◌+◌, ◌*◌, ◌≤◌, List, ◌≡◌, length, Some}
use Rattle.walks.specs.Order.{rows_in, entries_in, row_at}
use Rattle.ppda.specs.Units.{most_chance, most_mean}
use Rattle.model.specs.declared.sizes.Sizes.{Sizes}
use Rattle.model.specs.Clauses.{Fits}
use Rattle.delivery.specs.declared.shape.Shape.{Shape}
use Rattle.delivery.specs.Format.{record_bytes}
use Rattle.delivery.specs.Records.{value_at}
use Rattle.delivery.specs.Shapes.{shape_of}
use Rattle.ppda.specs.Equations.{RowVector}

-- The file has n records, and n records from record `at` on.
abbrev pub HasRecords : ℕ → List ℕ → Type 0
HasRecords n d = record_bytes * n ≤ length d

abbrev pub HasBlock : ℕ → ℕ → List ℕ → Type 0
HasBlock at n d = HasRecords (at + n) d

-- The bytes have n records or more, and no value of them is above a.
pub record Within (d : List ℕ) (n a : ℕ) : Type 0 where
  pub whole : HasRecords n d
  pub most : (e : ℕ) → value_at d e ≤ a

-- A block of chances in range, uppers or lowers: one for each entry. And a block of mean steps in range: one for each row.
abbrev pub Chances : Sizes → List ℕ → Type 0
Chances n d = Within d (entries_in n.states n.symbols) most_chance

abbrev pub MeanSteps : Sizes → List ℕ → Type 0
MeanSteps n d = Within d (rows_in n.states n.symbols) most_mean

-- The file's shape for a model of these sizes is h, and the sizes fit.
pub record ShapedFile (n : Sizes) (h : Shape) (d : List ℕ) : Type 0 where
  pub fits : Fits n.states n.symbols
  pub of : shape_of n.states n.symbols d ≡ Some h

-- The numbers of a block by itself: `uppers_of` reads the first V values of any bytes, so of the part from record V on it reads the lowers. Mean
-- steps are the values by rows.
abbrev pub rows_of_block : ℕ → List ℕ → RowVector
rows_of_block g d p z = value_at d (row_at g p z)

-- Record i is whole in the file.
abbrev pub HasRecord : List ℕ → ℕ → Type 0
HasRecord d i = record_bytes * (i + 1) ≤ length d
