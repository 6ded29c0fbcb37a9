-- Mission point 3 for two files, and the tail of request A.7: what the delivery says is true of the runs of the model. The inequalities are those of crate ppda (`Bounds`).
use Rattle.std.specs.Prelude.{ℕ, true, List, ◌≡◌, Some}
use Rattle.ppda.specs.Bounds.{UppersHold, LowersHold, MeansHold, TailsHold}
use Rattle.model.specs.Records.{states_of, symbols_of}
use Rattle.model.specs.Rules.{rules_of}
use Rattle.delivery.specs.declared.shape.Shape.{Shape}
use Rattle.delivery.specs.Shapes.{has_lowers, has_means, shape_of}
use Rattle.delivery.specs.Numbers.{uppers_of, lowers_of, means_of}
use Rattle.certificate.specs.Margin.{margin_of}

-- Of a model b with s states and g symbols and a delivery d of shape h: the uppers; the lowers with the margin, and the mean steps with their tail, where the
-- shape has them.
pub record TrueFor (b d : List ℕ) (s g : ℕ) (h : Shape) : Type 0 where
  pub uppers : UppersHold (rules_of b) s g (uppers_of s g d)
  pub lowers : has_lowers h ≡ true → LowersHold (rules_of b) s g (uppers_of s g d) (lowers_of s g d) (margin_of b d)
  pub means : has_means h ≡ true → MeansHold (rules_of b) s g (means_of s g h d)
  pub tails : has_means h ≡ true → TailsHold (rules_of b) s g (means_of s g h d)

-- Of two files, with the sizes and the shape that they have.
pub record TrueOfRuns (b d : List ℕ) : Type 0 where
  pub shape : Shape
  pub shaped : shape_of (states_of b) (symbols_of b) d ≡ Some shape
  pub bounds : TrueFor b d (states_of b) (symbols_of b) shape
