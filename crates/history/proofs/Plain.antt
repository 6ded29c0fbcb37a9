-- After any list of calls the register holds the plain pair and replies as it does, and it takes exactly the files that document 01's rules
-- accept.
use Prim.Native.Nat.{ℕ}
use native.Mathlib.Omega.{arith}
use mathlib.Core.Bool.{true, false≢true}
use mathlib.Core.List.{List, [], ◌∷◌}
use mathlib.Core.Logic.{◌↔◌}
use mathlib.Core.Option.{Option, none, some}
use mathlib.Core.Path.{◌≡◌, refl, sym, ap, ◌∙◌}
use Rattle.wellformed.specs.Verdict.{model_verdict}
use Rattle.wellformed.proofs.Accepted.{model_accepted}
use Rattle.verdict.specs.Verdict.{verdict}
use Rattle.verdict.proofs.Accepted.{delivery_accepted}
use Rattle.counter.specs.Verdict.{counter_verdict}
use Rattle.counter.proofs.Accepted.{counter_accepted}
use Rattle.counter.proofs.Made.{made_right}
use Rattle.calls.specs.Calls.{Call, file_model, file_counter, file_delivery, accepted, taken}
use Rattle.history.specs.Plain.{last_model, last_delivery, pair_of, of_model, if_none, by_verdict, mark_of, plain_reply}
use Rattle.history.specs.Run.{after_call, reply_of, register_after, history, register_of}
use Rattle.history.specs.Mission.{HoldsPair, AsPlainPair, ModelTaken, CounterTaken, CounterHeld, DeliveryTaken}
use Rattle.history.proofs.Pairs.{Right, mark_taken, reply_of_pair, next_of_pair}
use Rattle.outcome.specs.Outcomes.{Outcome, Accepted, Refused}
use Rattle.std.specs.Prelude.{Err, Ok}

-- The register holds the pair, and its files are accepted.
record Held (cs : List Call) : Type 0 where
  pair : HoldsPair cs
  right : Right (last_model (history cs)) (last_delivery (history cs))

replied : (cs : List Call) → Held cs → AsPlainPair cs
replied cs at c = ap (λ r. reply_of r c) at.pair ∙ reply_of_pair (pair_of (history cs)) at.right c

held_after : (cs : List Call) → Held cs
unfolding register_after history last_model last_delivery register_of
held_after [] = record { pair = refl; right = refl }
held_after (c ∷ cs) =
    let at = held_after cs in
    let next = next_of_pair (pair_of (history cs)) at.right c in
    record {
      pair = rw (replied cs at c) (ap (λ r. after_call r c) at.pair ∙ next.held);
      right = rw (replied cs at c) next.right;
    }

pub holds_pair : (cs : List Call) → HoldsPair cs
holds_pair cs = (held_after cs).pair

pub right_pair : (cs : List Call) → Right (last_model (history cs)) (last_delivery (history cs))
right_pair cs = (held_after cs).right

-- The held delivery is accepted for the held model.
pub held_right : (m y : Option (List ℕ)) (b e : List ℕ) → Right m y → m ≡ some b → y ≡ some e → verdict b e ≡ Accepted
held_right m y b e right model delivery = rw (model, delivery) at right

pub as_plain_pair : (cs : List Call) → AsPlainPair cs
as_plain_pair cs = replied cs (held_after cs)

-- ---- which files are taken

model_by_lem : (m : Option (List ℕ)) (o : Outcome) → (if_none m (by_verdict o accepted) ≡ accepted) ↔ ((m ≡ none) × (o ≡ Accepted))
model_by_lem none (Ok u) = (λ e. (refl, refl), λ h. refl)
model_by_lem none (Err why) = (
  λ e. let z : ◌≡◌ {A = ℕ} 0 1 = cc in absurd (omega arith),
  λ (free, is). let z : ◌≡◌ {A = ℕ} 0 1 = cc in absurd (omega arith),
)
model_by_lem (some b) o = (
  λ e. let z : ◌≡◌ {A = ℕ} 0 1 = cc in absurd (omega arith),
  λ (free, is). let z : ◌≡◌ {A = ℕ} 0 1 = cc in absurd (omega arith),
)

pub model_taken : (cs : List Call) → ModelTaken cs
unfolding plain_reply
model_taken cs b =
    let (from, to) = model_by_lem (last_model (history cs)) (model_verdict b) in
    let same = as_plain_pair cs (file_model b) in (
      λ e. let (free, is) = from (sym same ∙ e) in (free, (model_accepted b).0 is),
      λ h. same ∙ to (h.0, (model_accepted b).1 h.1),
    )

pub counter_taken : (cs : List Call) → CounterTaken cs
unfolding plain_reply
counter_taken cs c =
    let (from, to) = model_by_lem (last_model (history cs)) (counter_verdict c) in
    let same = as_plain_pair cs (file_counter c) in (
      λ e. let (free, is) = from (sym same ∙ e) in (free, (counter_accepted c).0 is),
      λ h. same ∙ to (h.0, (counter_accepted c).1 h.1),
    )

pub counter_held : (cs : List Call) → CounterHeld cs
unfolding history last_model
counter_held cs c e =
    let file = ((counter_taken cs c).0 e).1 in
    (record { file = file; held = rw e }, made_right c file)

delivery_by_lem : (m y : Option (List ℕ)) (d : List ℕ)
    → (taken (of_model m (λ b. by_verdict (verdict b d) (mark_of b y d))) ≡ true) ↔ ((b : List ℕ) × (m ≡ some b) × (verdict b d ≡ Accepted))
delivery_by_lem none y d = (λ e. absurd (false≢true e), λ (b, e, is). let z : ◌≡◌ {A = ℕ} 0 1 = cc in absurd (omega arith))
delivery_by_lem (some b) y d = (
  λ e. (b, refl, go (verdict b d) e),
  λ (a, e, is). let same : b ≡ a = cc in let accepted : verdict b d ≡ Accepted = rw same is in rw accepted (mark_taken b d y),
)
  where
    go : (o : Outcome) → taken (by_verdict o (mark_of b y d)) ≡ true → o ≡ Accepted
    go (Ok u) e = refl
    go (Err why) e = absurd (false≢true e)

pub delivery_taken : (cs : List Call) → DeliveryTaken cs
unfolding plain_reply
delivery_taken cs d =
    let (from, to) = delivery_by_lem (last_model (history cs)) (last_delivery (history cs)) d in
    let same = ap taken (as_plain_pair cs (file_delivery d)) in (
      λ e. let (b, held, is) = from (sym same ∙ e) in (b, held, (delivery_accepted b d).0 is),
      λ (b, held, file). same ∙ to (b, held, (delivery_accepted b d).1 file),
    )
