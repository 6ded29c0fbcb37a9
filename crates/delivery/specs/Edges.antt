-- Records by their eight bytes (document 01, "Deliveries"): kind, p, Z, q, and the value with the low byte first. No two bytes of a record are the
-- same, so that no two of its fields can change places unseen. And merged shapes.
use Rattle.std.specs.Prelude.{ℕ, List, [], ◌∷◌}
use Rattle.delivery.specs.declared.shape.Shape.{Shape}
use Rattle.delivery.specs.declared.shape.Shape.TheVariants.{U, UL, UR, ULR}
use Rattle.delivery.specs.Merged.{merged_shape}
use Rattle.delivery.specs.Records.{kind_at, state_at, symbol_at, exit_at, value_at}

abbrev pub records_file : List ℕ
records_file =
    85 ∷ 2 ∷ 9 ∷ 5 ∷ 3 ∷ 1 ∷ 7 ∷ 4
    ∷ 76 ∷ 6 ∷ 0 ∷ 3 ∷ 8 ∷ 1 ∷ 2 ∷ 4
    ∷ 82 ∷ 7 ∷ 8 ∷ 0 ∷ 5 ∷ 9 ∷ 1 ∷ 6 ∷ []

-- What record i has: kind, p, Z, q, value.
abbrev pub fields_at : List ℕ → ℕ → List ℕ
fields_at d i = kind_at d i ∷ state_at d i ∷ symbol_at d i ∷ exit_at d i ∷ value_at d i ∷ []

abbrev pub fields_said : List (List ℕ)
fields_said = (85 ∷ 2 ∷ 9 ∷ 5 ∷ 67567875 ∷ []) ∷ (76 ∷ 6 ∷ 0 ∷ 3 ∷ 67240200 ∷ []) ∷ (82 ∷ 7 ∷ 8 ∷ 0 ∷ 100731141 ∷ []) ∷ []

-- The merged shape of each pair of shapes (request A.5): lowers where both have them, mean steps where either has.
pub record ShapesMerged : Type 0 where
  pub first : Shape
  pub second : Shape
  pub shape : Shape

abbrev pub makes : Shape → Shape → Shape → ShapesMerged
makes h k j = record { first = h; second = k; shape = j }

abbrev pub shapes_merged : List ShapesMerged
shapes_merged =
    makes U U U ∷ makes U UL U ∷ makes U UR UR ∷ makes U ULR UR
    ∷ makes UL U U ∷ makes UL UL UL ∷ makes UL UR UR ∷ makes UL ULR ULR
    ∷ makes UR U UR ∷ makes UR UL UR ∷ makes UR UR UR ∷ makes UR ULR UR
    ∷ makes ULR U UR ∷ makes ULR UL ULR ∷ makes ULR UR UR ∷ makes ULR ULR ULR ∷ []

abbrev pub merged_as : ShapesMerged → Shape
merged_as x = merged_shape x.first x.second

abbrev pub shape_made : ShapesMerged → Shape
shape_made x = x.shape
