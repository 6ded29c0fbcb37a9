-- A refused filing leaves the register as it is, and so does a refused merge.
use Prim.Native.Nat.{ℕ}
use mathlib.Core.Bool.{true, false≢true}
use mathlib.Core.List.{List}
use mathlib.Core.Path.{◌≡◌, refl}
use Rattle.filing.specs.Outcomes.{model_outcome, file_of, delivery_outcome, merge_outcome}
use Rattle.register.specs.declared.Register.{Register}
use Rattle.register.specs.Filing.{model_by, file_model, delivery_by, file_delivery}
use Rattle.register.specs.Merging.{merge_by, merge_delivery}
use Rattle.outcome.specs.Outcomes.{Outcome, is_refused}
use Rattle.std.specs.Prelude.{Err, Ok}

model_by_lem : (o : Outcome) (r : Register) (b : List ℕ) → is_refused (model_by o r b).outcome ≡ true → (model_by o r b).register ≡ r
model_by_lem (Ok u) r b e = absurd (false≢true e)
model_by_lem (Err why) r b e = refl

delivery_by_lem : (o : Outcome) (r : Register) (b d : List ℕ) → is_refused (delivery_by o r b d).receipt ≡ true → (delivery_by o r b d).register ≡ r
delivery_by_lem (Ok u) r b d e = absurd (false≢true e)
delivery_by_lem (Err why) r b d e = refl

pub model_keeps : (r : Register) (b : List ℕ) → is_refused (file_model r b).outcome ≡ true → (file_model r b).register ≡ r
unfolding file_model
model_keeps r b e = model_by_lem (model_outcome r.model.length b) r b e

pub delivery_keeps : (r : Register) (d : List ℕ) → is_refused (file_delivery r d).receipt ≡ true → (file_delivery r d).register ≡ r
unfolding file_delivery
delivery_keeps r d e = delivery_by_lem (delivery_outcome r.model d) r (file_of r.model) d e

merge_by_lem : (o : Outcome) (r : Register) (b d : List ℕ) → is_refused (merge_by o r b d).receipt ≡ true → (merge_by o r b d).register ≡ r
merge_by_lem (Ok u) r b d e = absurd (false≢true e)
merge_by_lem (Err why) r b d e = refl

pub merge_keeps : (r : Register) (d : List ℕ) → is_refused (merge_delivery r d).receipt ≡ true → (merge_delivery r d).register ≡ r
unfolding merge_delivery
merge_keeps r d e = merge_by_lem (merge_outcome r.model r.delivery d) r (file_of r.model) d e
