-- The four shapes of a delivery. "Shape" is document 01's term.
use Rattle.std.specs.Prelude.{ℕ, ◌+◌, ◌*◌, Bool, true, false, not, cond, ◌&&◌, List, eqb, length, Option, Some, None}
use Rattle.std.specs.Bool.{beq}
use Rattle.delivery.specs.declared.shape.Shape.{Shape}
use Rattle.delivery.specs.declared.shape.Shape.TheVariants.{U, UL, UR, ULR}
use Rattle.delivery.specs.declared.shape.Block.TheVariants.{Lowers}
use Rattle.delivery.specs.Format.{record_bytes}
use Rattle.delivery.specs.Records.{kind_at, kind_of}
use Rattle.walks.specs.Order.{entries_in, rows_in}

-- Whether a shape has lowers, and whether it has mean steps.
abbrev pub has_lowers : Shape → Bool
has_lowers U = false
has_lowers UL = true
has_lowers UR = false
has_lowers ULR = true

abbrev pub has_means : Shape → Bool
has_means U = false
has_means UL = false
has_means UR = true
has_means ULR = true

-- Two shapes are the same: both have lowers or neither, and both have mean steps or neither. Every shape has uppers.
abbrev pub same_shape : Shape → Shape → Bool
same_shape h k = beq (has_lowers h) (has_lowers k) && beq (has_means h) (has_means k)

-- The record at which a shape's mean steps start, after the uppers and the lowers.
unfoldable pub means_from : ℕ → ℕ → Shape → ℕ
means_from s g h = cond (has_lowers h) (entries_in s g + entries_in s g) (entries_in s g)

-- How many records a shape has.
unfoldable pub records_in : ℕ → ℕ → Shape → ℕ
records_in s g h = cond (has_means h) (means_from s g h + rows_in s g) (means_from s g h)

-- The file has as many bytes as the shape's records.
unfoldable pub long_as : ℕ → ℕ → Shape → List ℕ → Bool
long_as s g h d = eqb (length d) (record_bytes * records_in s g h)

-- Which shape a file as long as UL has. Where s is 1, UL and UR are equally long, and the kind of record V decides: 76 means UL and all
-- else UR.
unfoldable pub lowers_or_means : ℕ → ℕ → List ℕ → Shape
lowers_or_means s g d = cond (eqb s 1 && not (eqb (kind_at d (entries_in s g)) (kind_of Lowers))) UR UL

-- The shape of a file for a model with s states and g symbols.
unfoldable pub shape_of : ℕ → ℕ → List ℕ → Option Shape
shape_of s g d =
    cond (long_as s g U d) (Some U)
    (cond (long_as s g UL d) (Some (lowers_or_means s g d))
    (cond (long_as s g UR d) (Some UR)
    (cond (long_as s g ULR d) (Some ULR) None)))
