-- Merges after any list of calls (request A.5): one is taken exactly where a model and a delivery are held and the second delivery is accepted, the merged file is
-- held then, it is known where it is the file that was held, and a refusal names the first test of the second delivery that fails. By the plain pair's replies.
use Prim.Native.Nat.{ℕ}
use native.Mathlib.Omega.{arith}
use mathlib.Core.Bool.{Bool, true, cond, false≢true}
use mathlib.Core.List.{List}
use mathlib.Core.Logic.{◌↔◌}
use mathlib.Core.Option.{Option, none, some}
use mathlib.Core.Path.{◌≡◌, refl, sym, ap, ◌∙◌}
use Rattle.outcome.specs.Tests.{first}
use Rattle.delivery.specs.Merged.{merged}
use Rattle.verdict.specs.Verdict.{delivery_tests, verdict}
use Rattle.verdict.proofs.Accepted.{delivery_accepted}
use Rattle.merging.proofs.Accepted.{merged_right, merged_bytes}
use Rattle.calls.specs.Calls.{Call, merge, Reply, known, new, taken}
use Rattle.history.specs.Plain.{last_model, last_delivery, of_model, of_delivery, by_verdict, same_delivery, mark_of, plain_reply}
use Rattle.history.specs.Run.{history, reply_to}
use Rattle.history.specs.Mission.{Holds, HoldsDelivery, MergeTaken, MergeHeld, MergeKnown, ItselfKnown, MergeNamed}
use Rattle.history.proofs.Same.{same_bytes, merged_itself}
use Rattle.history.proofs.Pairs.{Right, model_held_right, mark_taken}
use Rattle.history.proofs.Plain.{right_pair, held_right, as_plain_pair}
use Rattle.history.proofs.Known.{known_if}
use Rattle.history.proofs.Named.{named, names, verdict_after}
use Rattle.outcome.specs.Outcomes.{Outcome, Accepted, Refused}
use Rattle.std.specs.Prelude.{Err, Ok}

-- ---- which are taken

-- A reply by the verdict is taken where the verdict accepts.
taken_by : (o : Outcome) (r : Reply) → taken r ≡ true → (taken (by_verdict o r) ≡ true) ↔ (o ≡ Accepted)
taken_by (Ok u) r t = (λ e. refl, λ e. t)
taken_by (Err why) r t = (λ e. absurd (false≢true e), λ e. let z : ◌≡◌ {A = ℕ} 0 1 = cc in absurd (omega arith))

merge_by_lem : (m y : Option (List ℕ)) (d : List ℕ)
    → (taken (of_model m (λ b. of_delivery y (λ e. by_verdict (verdict b d) (mark_of b (some e) (merged b e d))))) ≡ true)
    ↔ ((b : List ℕ) × (e : List ℕ) × (m ≡ some b) × (y ≡ some e) × (verdict b d ≡ Accepted))
merge_by_lem none y d = (λ e. absurd (false≢true e), λ (b, e, held, former, is). let z : ◌≡◌ {A = ℕ} 0 1 = cc in absurd (omega arith))
merge_by_lem (some b) none d = (λ e. absurd (false≢true e), λ (a, e, held, former, is). let z : ◌≡◌ {A = ℕ} 0 1 = cc in absurd (omega arith))
merge_by_lem (some b) (some e) d =
    let (from, to) = taken_by (verdict b d) (mark_of b (some e) (merged b e d)) (mark_taken b (merged b e d) (some e)) in (
      λ t. (b, e, refl, refl, from t),
      λ (a, c, held, former, is). let same : b ≡ a = cc in to (rw same is),
    )

pub merge_taken : (cs : List Call) → MergeTaken cs
unfolding plain_reply
merge_taken cs d =
    let (from, to) = merge_by_lem (last_model (history cs)) (last_delivery (history cs)) d in
    let same = ap taken (as_plain_pair cs (merge d)) in (
      λ t. let (b, e, held, former, is) = from (sym same ∙ t) in (b, e, held, former, (delivery_accepted b d).0 is),
      λ (b, e, held, former, file). same ∙ to (b, e, held, former, (delivery_accepted b d).1 file),
    )

-- A merge that is taken found the second delivery accepted for the held model.
pub second_accepted : (cs : List Call) (b d : List ℕ) → Holds cs b → taken (reply_to cs (merge d)) ≡ true → verdict b d ≡ Accepted
second_accepted cs b d held t =
    let (a, e, found, former, file) = (merge_taken cs d).0 t in
    let same : a ≡ b = let x : some a ≡ some b = sym found ∙ held in cc in
    (delivery_accepted b d).1 (rw same at file)

-- ---- what is held then

pub merge_held : (cs : List Call) → MergeHeld cs
unfolding history last_delivery
merge_held cs b e d held former t =
    let one = (delivery_accepted b e).0 (held_right _ _ b e (right_pair cs) held former) in
    let other = (delivery_accepted b d).0 (second_accepted cs b d held t) in
    (rw (t, held, former) refl, merged_right b e d one other)

-- ---- the mark

-- Where both are held and the second is accepted, the reply is the mark.
merge_marked : (cs : List Call) (b e d : List ℕ) → Holds cs b → HoldsDelivery cs e → verdict b d ≡ Accepted
    → reply_to cs (merge d) ≡ cond (same_delivery b e (merged b e d)) known new
unfolding plain_reply
merge_marked cs b e d held former is = as_plain_pair cs (merge d) ∙ rw (held, former, is)

known_exactly : (t : Bool) → (cond t known new ≡ known) ↔ (t ≡ true)
known_exactly t = (known_if t, λ e. rw e)

pub merge_known : (cs : List Call) → MergeKnown cs
merge_known cs b e d held former bytes t =
    let is = second_accepted cs b d held t in
    let right = held_right _ _ b e (right_pair cs) held former in
    let mark = known_exactly (same_delivery b e (merged b e d)) in
    let file = merged_bytes b e d ((delivery_accepted b e).0 right) ((delivery_accepted b d).0 is) in
    let same = same_bytes b e (merged b e d) right bytes file in
    let reply = merge_marked cs b e d held former is in (
      λ q. sym (same.0 (mark.0 (sym reply ∙ q))),
      λ q. reply ∙ mark.1 (same.1 (sym q)),
    )

-- The model of a held delivery.
model_beside : (m y : Option (List ℕ)) (d : List ℕ) → Right m y → y ≡ some d → (b : List ℕ) × (m ≡ some b) × (verdict b d ≡ Accepted)
model_beside none y d right e = let z : ◌≡◌ {A = ℕ} 0 1 = cc in absurd (omega arith)
model_beside (some b) y d right e = (b, refl, held_right (some b) y b d right refl e)

pub itself_known : (cs : List Call) → ItselfKnown cs
itself_known cs d former =
    let (b, held, is) = model_beside _ _ d (right_pair cs) former in
    merge_marked cs b d d held former is ∙ rw (merged_itself b d is)

-- ---- a refusal

pub merge_named : (cs : List Call) → MergeNamed cs
unfolding plain_reply
merge_named cs b e d n i k held former =
    let is = model_held_right (last_delivery (history cs)) (right_pair cs) held in
    let mark = mark_of b (some e) (merged b e d) in
    let same : reply_to cs (merge d) ≡ by_verdict (first (delivery_tests b d)) mark =
    as_plain_pair cs (merge d) ∙ rw (held, former, verdict_after b d is) in
    let stands = mark_taken b (merged b e d) (some e) in
    (λ q. named (delivery_tests b d) mark stands (sym same ∙ q), λ x. same ∙ names (delivery_tests b d) mark stands x)
