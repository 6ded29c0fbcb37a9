-- Merging two certificates of one model (request A.5): of each pair of numbers the sharper.
use Rattle.std.specs.Prelude.{min, max}
use Rattle.ppda.specs.Equations.{Vector, RowVector}

-- The smaller of two numbers at each entry: of uppers.
abbrev pub smaller : Vector → Vector → Vector
smaller u v p z q = min (u p z q) (v p z q)

-- The larger of two numbers at each entry: of lowers.
abbrev pub larger : Vector → Vector → Vector
larger l k p z q = max (l p z q) (k p z q)

-- The smaller of two numbers at each row: of mean steps.
abbrev pub smaller_rows : RowVector → RowVector → RowVector
smaller_rows r t p z = min (r p z) (t p z)
