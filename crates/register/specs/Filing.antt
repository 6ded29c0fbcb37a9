-- The filings, on any value of a register (document 01, "Filing and questions").
use Rattle.std.specs.Result.{result_ok}
use Rattle.std.specs.Prelude.{ℕ, true, List, ◌↔◌, ◌≡◌, Some, None, Err, Ok}
use Rattle.model.specs.Records.{states_of, symbols_of}
use Rattle.delivery.specs.declared.shape.Shape.{Shape}
use Rattle.delivery.specs.Shapes.{shape_of}
use Rattle.held.specs.declared.Numbers.{Numbers}
use Rattle.calls.specs.Answers.{Receipt}
use Rattle.register.specs.declared.Register.{Register}
use Rattle.register.specs.declared.Filed.{Filed}
use Rattle.register.specs.declared.Received.{Received}
use Rattle.held.specs.Held.{shape_as, no_model, no_numbers, model_held, numbers_held}
use Rattle.filing.specs.Outcomes.{model_outcome, file_of, delivery_outcome}
use Rattle.filing.specs.Known.{mark_by}
use Rattle.outcome.specs.Outcomes.{Outcome, Accepted, is_refused}

-- A cleared register.
unfoldable pub cleared : Register
cleared = record { model = no_model; delivery = None; numbers = no_numbers }

-- The register with the model b alone.
unfoldable pub with_model : List ℕ → Register
with_model b = record { model = model_held b; delivery = None; numbers = no_numbers }

-- A refused filing leaves the register as it is.
abbrev pub turned_down : Register → Outcome → Filed
turned_down r o = record { register = r; outcome = o }

abbrev pub turned_away : Register → Receipt → Received
turned_away r o = record { register = r; receipt = o }

-- Filing the model b, by the outcome.
abbrev pub model_by : Outcome → Register → List ℕ → Filed
model_by (Ok u) r b = record { register = with_model b; outcome = Accepted }
model_by (Err why) r b = turned_down r (Err why)

unfoldable pub file_model : Register → List ℕ → Filed
file_model r b = model_by (model_outcome r.model.length b) r b

-- The shape of an accepted delivery.
unfoldable pub shape_for : List ℕ → List ℕ → Shape
shape_for b d = shape_as (shape_of (states_of b) (symbols_of b) d)

-- The register r with a delivery of shape h and these numbers for its model, of s states and g symbols, and the mark, by what r held.
abbrev pub holding_sized : Register → ℕ → ℕ → Shape → Numbers → Received
holding_sized r s g h numbers =
    record {
      register = record { model = r.model; delivery = Some h; numbers = numbers };
      receipt = Ok (mark_by s g r.delivery r.numbers h numbers);
    }

-- The same for its model b.
abbrev pub holding_numbers : Register → List ℕ → Shape → Numbers → Received
holding_numbers r b h numbers = holding_sized r (states_of b) (symbols_of b) h numbers

-- The register r with the delivery d of shape h for its model b, and its mark.
abbrev pub received : Register → List ℕ → Shape → List ℕ → Received
received r b h d = holding_numbers r b h (numbers_held b h d)

-- Filing the delivery d for the held model b, by the outcome.
abbrev pub delivery_by : Outcome → Register → List ℕ → List ℕ → Received
delivery_by (Ok u) r b d = received r b (shape_for b d) d
delivery_by (Err why) r b d = turned_away r (Err why)

unfoldable pub file_delivery : Register → List ℕ → Received
file_delivery r d = delivery_by (delivery_outcome r.model d) r (file_of r.model) d

-- An accepted delivery has a mark, known or new, and a refused one has none ("An accepted delivery … is marked").
abbrev pub Marked : Register → List ℕ → Type 0
Marked r d = (is_refused (delivery_outcome r.model d) ≡ true) ↔ (result_ok (file_delivery r d).receipt ≡ None)
