-- Merging the held delivery with a second one, on any value of a register (request A.5).
use Rattle.std.specs.Prelude.{ℕ, Bool, List, Err, Ok}
use Rattle.delivery.specs.declared.shape.Shape.{Shape}
use Rattle.delivery.specs.Merged.{merged_shape}
use Rattle.held.specs.Held.{is_held, shape_held, numbers_held}
use Rattle.merging.specs.Numbers.{numbers_merged}
use Rattle.filing.specs.Outcomes.{file_of, merge_outcome}
use Rattle.register.specs.declared.Register.{Register}
use Rattle.register.specs.declared.Received.{Received}
use Rattle.register.specs.Filing.{turned_away, shape_for, holding_numbers}
use Rattle.outcome.specs.Outcomes.{Outcome}

-- Whether a delivery is held: where a model is held and none is, merging is refused by 42.
unfoldable pub has_delivery : Register → Bool
has_delivery r = is_held r.delivery

-- The register r with its delivery merged with the delivery d of shape k for its model b. The mark compares it with the delivery that r held.
abbrev pub joined : Register → List ℕ → Shape → List ℕ → Received
joined r b k d =
    holding_numbers r b (merged_shape (shape_held r.delivery) k)
    (numbers_merged b (shape_held r.delivery) r.numbers k (numbers_held b k d))

-- Merging with the delivery d for the held model b, by the outcome.
abbrev pub merge_by : Outcome → Register → List ℕ → List ℕ → Received
merge_by (Ok u) r b d = joined r b (shape_for b d) d
merge_by (Err why) r b d = turned_away r (Err why)

unfoldable pub merge_delivery : Register → List ℕ → Received
merge_delivery r d = merge_by (merge_outcome r.model r.delivery d) r (file_of r.model) d
