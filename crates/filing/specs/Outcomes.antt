-- The outcome of a filing: a reason found in the register, which comes before any file is read, or the verdict on the file (document 01, "Reasons
-- found in the register").
use Rattle.std.specs.Prelude.{ℕ, Bool, true, false, cond, List, pos, take, Option, Err, Ok}
use Rattle.outcome.specs.declared.Reason.TheVariants.{NoModel, ModelHeld, NoDelivery}
use Rattle.wellformed.specs.Verdict.{model_verdict}
use Rattle.verdict.specs.Verdict.{verdict}
use Rattle.delivery.specs.declared.shape.Shape.{Shape}
use Rattle.held.specs.declared.HeldModel.{HeldModel}
use Rattle.held.specs.Held.{holds_model, is_held}
use Rattle.outcome.specs.Outcomes.{Outcome, Accepted, Refused}

-- Filing the model b: 41 where one of this length is held.
unfoldable pub model_outcome : ℕ → List ℕ → Outcome
model_outcome n b = cond (holds_model n) (Refused ModelHeld 0 (pos 0)) (model_verdict b)

-- The file of a held model.
unfoldable pub file_of : HeldModel → List ℕ
file_of m = take m.length m.bytes

-- Filing the delivery d: 40 where no model is held.
unfoldable pub delivery_outcome : HeldModel → List ℕ → Outcome
delivery_outcome m d = cond (holds_model m.length) (verdict (file_of m) d) (Refused NoModel 0 (pos 0))

-- Merging the held delivery with d (request A.5), by whether a model and a delivery are held: 40, then 42.
abbrev pub merge_reason : Bool → Bool → Outcome
merge_reason false delivery = Refused NoModel 0 (pos 0)
merge_reason true false = Refused NoDelivery 0 (pos 0)
merge_reason true true = Accepted

-- Then the verdict on d alone.
abbrev pub merge_after : Outcome → Outcome → Outcome
merge_after (Ok u) o = o
merge_after (Err why) o = Err why

unfoldable pub merge_outcome : HeldModel → Option Shape → List ℕ → Outcome
merge_outcome m y d = merge_after (merge_reason (holds_model m.length) (is_held y)) (verdict (file_of m) d)
