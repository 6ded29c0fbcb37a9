-- The margin of a delivery (document 01, "Deliveries"): it exists where lowers do.
use Rattle.std.specs.Prelude.{ℕ, cond, List, Option, Some, None, Err, Ok}
use Rattle.ppda.specs.Margin as Theory
use Rattle.model.specs.Records.{states_of, symbols_of}
use Rattle.model.specs.Rules.{rules_of}
use Rattle.delivery.specs.declared.shape.Shape.{Shape}
use Rattle.delivery.specs.Shapes.{has_lowers, shape_of}
use Rattle.delivery.specs.Numbers.{uppers_of}
use Rattle.verdict.specs.Verdict.{verdict}
use Rattle.outcome.specs.Outcomes.{Outcome}

-- The margin of the uppers of the delivery d for the model b.
unfoldable pub margin_of : List ℕ → List ℕ → ℕ
margin_of b d = Theory.margin (rules_of b) (states_of b) (symbols_of b) (uppers_of (states_of b) (symbols_of b) d)

-- The margin that is shown: that of an accepted delivery with lowers.
abbrev pub shown_by : Outcome → Option Shape → ℕ → Option ℕ
shown_by (Ok u) (Some h) m = cond (has_lowers h) (Some m) None
shown_by (Ok u) None m = None
shown_by (Err why) h m = None

unfoldable pub shown_margin : List ℕ → List ℕ → Option ℕ
shown_margin b d = shown_by (verdict b d) (shape_of (states_of b) (symbols_of b) d) (margin_of b d)
