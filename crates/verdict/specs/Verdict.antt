-- The verdict on a delivery with its model: the model's tests 10 to 15 first, then document 01's list 20 to 27, top to bottom.
use Rattle.std.specs.Prelude.{ℕ, true, List, [], ◌∷◌, ◌++◌, Option, Some, None}
use Rattle.outcome.specs.declared.Reason.TheVariants.{NoShape}
use Rattle.outcome.specs.Tests.{Test, plain, first}
use Rattle.ppda.specs.Live.{alive}
use Rattle.model.specs.Records.{states_of, symbols_of}
use Rattle.model.specs.Rules.{rules_of}
use Rattle.wellformed.specs.Verdict.{model_tests}
use Rattle.delivery.specs.declared.shape.Shape.{Shape}
use Rattle.delivery.specs.Shapes.{has_lowers, has_means, means_from, shape_of}
use Rattle.walks.specs.Order.{entries_in}
use Rattle.delivery.specs.Numbers.{uppers_of, lowers_of, means_of}
use Rattle.layout.specs.Layout.{only_if, layout_tests}
use Rattle.inequalities.specs.Inequalities.{dead_tests, upper_tests, below_tests, lower_tests, mean_tests}
use Rattle.outcome.specs.Outcomes.{Outcome}

-- Each of these over the whole file before the next, for a file d of shape h beside the model b.
unfoldable pub number_tests : List ℕ → ℕ → ℕ → Shape → List ℕ → List Test
number_tests b s g h d =
    dead_tests s g (alive (rules_of b) s g) (uppers_of s g d) 0
    ++ (only_if (has_lowers h) (dead_tests s g (alive (rules_of b) s g) (lowers_of s g d) (entries_in s g))
    ++ (upper_tests (rules_of b) s g (has_lowers h) (alive (rules_of b) s g) (uppers_of s g d)
    ++ (only_if (has_lowers h) (below_tests s g (lowers_of s g d) (uppers_of s g d))
    ++ (only_if (has_lowers h) (lower_tests (rules_of b) s g (lowers_of s g d))
    ++ only_if (has_means h) (mean_tests (rules_of b) s g (uppers_of s g d) (means_of s g h d) (means_from s g h))))))

-- The tests of a delivery by its shape: 20 where it has none.
unfoldable pub shaped_tests : List ℕ → ℕ → ℕ → Option Shape → List ℕ → List Test
shaped_tests b s g None d = plain true NoShape 0 ∷ []
shaped_tests b s g (Some h) d = layout_tests s g h d ++ number_tests b s g h d

-- The tests of the delivery d for the model b.
unfoldable pub delivery_tests : List ℕ → List ℕ → List Test
delivery_tests b d = shaped_tests b (states_of b) (symbols_of b) (shape_of (states_of b) (symbols_of b) d) d

-- The verdict on a delivery with its model, which is tested first.
unfoldable pub verdict : List ℕ → List ℕ → Outcome
verdict b d = first (model_tests b ++ delivery_tests b d)
