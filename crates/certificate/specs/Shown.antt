-- The shape that is shown of a delivery: none where its model is refused.
use Rattle.std.specs.Prelude.{ℕ, List, Option, None, Err, Ok}
use Rattle.model.specs.Records.{states_of, symbols_of}
use Rattle.wellformed.specs.Verdict.{model_verdict}
use Rattle.delivery.specs.declared.shape.Shape.{Shape}
use Rattle.delivery.specs.Shapes.{shape_of}
use Rattle.outcome.specs.Outcomes.{Outcome}

abbrev pub shape_by : Outcome → Option Shape → Option Shape
shape_by (Ok u) h = h
shape_by (Err why) h = None

unfoldable pub shape_in : List ℕ → List ℕ → Option Shape
shape_in b d = shape_by (model_verdict b) (shape_of (states_of b) (symbols_of b) d)
