-- An accepted delivery is one for the held model, which fits, and has its shape there; and what filing it gives, as the code finds it.
use Prim.Native.Nat.{ℕ}
use mathlib.Core.Bool.{true, false, false≢true}
use mathlib.Core.List.{List}
use mathlib.Core.Path.{◌≡◌, refl}
use lib.ListN.{take}
use Rattle.model.specs.declared.sizes.Sizes.{Sizes}
use Rattle.model.specs.Clauses.{Fits}
use Rattle.model.specs.Sizes.{sizes_of}
use Rattle.model.proofs.Accepted.{sized_fits}
use Rattle.delivery.specs.declared.shape.Shape.{Shape}
use Rattle.delivery.specs.Shapes.{shape_of}
use Rattle.verdict.specs.Verdict.{verdict}
use Rattle.certificate.specs.Clauses.{AcceptedFile}
use Rattle.certificate.proofs.Steps.{sized_by_verdict}
use Rattle.held.specs.Held.{shape_as, numbers_held}
use Rattle.held.proofs.Becomes.{shape_by_verdict}
use Rattle.outcome.specs.Outcomes.{Outcome, Accepted, is_refused}
use Rattle.outcome.proofs.Tests.{not_refused}
use Rattle.held.specs.declared.Numbers.{Numbers}
use Rattle.filing.specs.Outcomes.{file_of, delivery_outcome}
use Rattle.filing.specs.Known.{mark_by}
use Rattle.calls.specs.declared.Mark.{Mark}
use Rattle.register.specs.declared.Register.{Register}
use Rattle.register.specs.declared.Received.{Received}
use Rattle.register.specs.Filing.{turned_down, model_by, turned_away, delivery_by, shape_for, file_delivery}
use Rattle.register.specs.Merging.{merge_by}
use Rattle.std.specs.Prelude.{Some, Err, Ok}
use Rattle.outcome.specs.declared.Refusal.{Refusal}

module _ (b d : List ℕ) {n : Sizes} (accepted : verdict b d ≡ Accepted) (same : n ≡ sizes_of b) where
  pub accepted_fits : Fits n.states n.symbols
  accepted_fits = sized_fits (sized_by_verdict d accepted same)

  pub file_accepted : {h : Shape} → h ≡ shape_as (shape_of n.states n.symbols d) → AcceptedFile b n h d
  file_accepted is =
      record { file = record { sized = sized_by_verdict d accepted same; of = shape_by_verdict b d same accepted is }; accepted = accepted }

-- A refusal leaves the register as it is, by the outcome of each filing and of a merge.
pub model_by_lem : (o : Outcome) (r : Register) (b : List ℕ) → is_refused o ≡ true → turned_down r o ≡ model_by o r b
model_by_lem (Ok u) r b e = absurd (false≢true e)
model_by_lem (Err why) r b e = refl

pub delivery_by_lem : (o : Outcome) {why : Refusal} (r : Register) (b d : List ℕ) → o ≡ Err why → turned_away r (Err why) ≡ delivery_by o r b d
delivery_by_lem o r b d e = rw e

pub merge_by_lem : (o : Outcome) {why : Refusal} (r : Register) (b d : List ℕ) → o ≡ Err why → turned_away r (Err why) ≡ merge_by o r b d
merge_by_lem o r b d e = rw e

-- An accepted delivery's shape and numbers are held, and it is marked by what was held before.
pub delivery_filed : (r : Register) (d : List ℕ) {o : Outcome} → o ≡ delivery_outcome r.model d → {h : Shape} {n : Numbers} {z : Sizes} {m : Mark}
    → is_refused o ≡ false
    → h ≡ shape_as (shape_of z.states z.symbols d)
    → n ≡ numbers_held (take r.model.length r.model.bytes) h d
    → z ≡ sizes_of (take r.model.length r.model.bytes)
    → m ≡ mark_by z.states z.symbols r.delivery r.numbers h n
    → ◌≡◌ {A = Received} (record { register = record { model = r.model; delivery = Some h; numbers = n }; receipt = Ok m }) (file_delivery r d)
unfolding file_delivery file_of shape_for
delivery_filed r d found e shape numbers same mark = rw (← found, not_refused _ e, ← (rw same at shape), ← numbers, rw same at mark)
