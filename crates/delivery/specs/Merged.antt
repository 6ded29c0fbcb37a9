-- The delivery merged of two for one model (request A.5): the smaller upper, the larger lower and the smaller mean of each pair, by the encoders of `Made`.
use Rattle.std.specs.Prelude.{ℕ, Bool, true, false, ◌&&◌, ◌||◌, List, [], Option, Some, None}
use Rattle.ppda.specs.Equations.{RowVector}
use Rattle.ppda.specs.Merging.{smaller, larger, smaller_rows}
use Rattle.model.specs.Records.{states_of, symbols_of}
use Rattle.delivery.specs.declared.shape.Shape.{Shape}
use Rattle.delivery.specs.declared.shape.Shape.TheVariants.{U, UL, UR, ULR}
use Rattle.delivery.specs.Shapes.{has_lowers, has_means, shape_of}
use Rattle.delivery.specs.Numbers.{uppers_of, lowers_of, means_of}
use Rattle.delivery.specs.Made.{made_delivery}

-- The shape by whether it has lowers, and mean steps.
abbrev pub shape_with : Bool → Bool → Shape
shape_with false false = U
shape_with true false = UL
shape_with false true = UR
shape_with true true = ULR

-- "It has L exactly when both have, and R when either has".
abbrev pub merged_shape : Shape → Shape → Shape
merged_shape h k = shape_with (has_lowers h && has_lowers k) (has_means h || has_means k)

-- The mean steps r and t, by whether the one and the other delivery has any: of both the smaller, and else "taken from the one that has it".
abbrev pub merged_means : Bool → Bool → RowVector → RowVector → RowVector
merged_means true true r t = smaller_rows r t
merged_means true false r t = r
merged_means false other r t = t

-- The files e of shape h and d of shape k, for a model with s states and g symbols.
unfoldable pub merged_of : ℕ → ℕ → Shape → Shape → List ℕ → List ℕ → List ℕ
merged_of s g h k e d =
    made_delivery s g (merged_shape h k)
    (smaller (uppers_of s g e) (uppers_of s g d))
    (larger (lowers_of s g e) (lowers_of s g d))
    (merged_means (has_means h) (has_means k) (means_of s g h e) (means_of s g k d))

-- By the shapes that the files have. (One without a shape is no delivery, and makes nothing.)
abbrev pub merged_by : ℕ → ℕ → Option Shape → Option Shape → List ℕ → List ℕ → List ℕ
merged_by s g (Some h) (Some k) e d = merged_of s g h k e d
merged_by s g (Some h) None e d = []
merged_by s g None k e d = []

-- The merged file of two deliveries e and d for the model b.
unfoldable pub merged : List ℕ → List ℕ → List ℕ → List ℕ
merged b e d = merged_by (states_of b) (symbols_of b) (shape_of (states_of b) (symbols_of b) e) (shape_of (states_of b) (symbols_of b) d) e d
