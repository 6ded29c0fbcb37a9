-- Refusals after any list of calls: the number is one that document 01 lists for the call, and a file's refusal names the first of its tests
-- that fails. By the plain pair's replies.
use Prim.Native.Nat.{ℕ, zero, suc, ◌+◌, ◌≤◌, ◌<◌}
use Rattle.std.specs.Prelude as Library
use native.Mathlib.Omega.{arith}
use mathlib.Core.Bool.{Bool, true, false, cond, false≢true, ◌&&◌}
use mathlib.Core.List.{List, [], ◌∷◌}
use mathlib.Core.Logic.{inl, inr}
use mathlib.Core.Option.{Option, none, some}
use mathlib.Core.Path.{◌≡◌, refl, sym, ap, ◌∙◌}
use lib.Dec.{eqb, ltb, leb}
use lib.IntN.{ℤ}
use borrow.Author.Tests.{eqb-true, eqb-false}
use Rattle.walks.specs.Sums.{In}
use Rattle.outcome.specs.declared.Reason.{Reason}
use Rattle.outcome.specs.Reasons.{number_of}
use Rattle.outcome.specs.Tests.{Test, first}
use Rattle.outcome.proofs.Tests.{first_after, first_failure, refused_exactly}
use Rattle.model.specs.Records.{states_of, symbols_of}
use Rattle.wellformed.specs.Verdict.{model_tests, model_verdict}
use Rattle.wellformed.proofs.Places.{model_number}
use Rattle.delivery.specs.declared.shape.Shape.{Shape}
use Rattle.delivery.specs.Shapes.{has_lowers, has_means, shape_of}
use Rattle.delivery.specs.Numbers.{uppers_of, lowers_of, means_of}
use Rattle.delivery.specs.Merged.{merged}
use Rattle.ppda.specs.Chances.{chance}
use Rattle.model.specs.Rules.{rules_of}
use Rattle.verdict.specs.Marks.{live_mark}
use Rattle.verdict.specs.Verdict.{delivery_tests, verdict}
use Rattle.verdict.proofs.Places.{delivery_number}
use Rattle.certificate.specs.Margin.{margin_of}
use Rattle.counter.specs.Verdict.{counter_tests, counter_verdict}
use Rattle.counter.proofs.Places.{counter_number}
use Rattle.calls.specs.Calls.{Call, clear, file_model, file_counter, file_delivery, merge, upper, lower, mean_steps, margin, live, within, Reply, accepted, value, refused, taken}
use Rattle.calls.specs.Calls as Calls
use Rattle.history.specs.Plain.{last_model, last_delivery, of_model, of_delivery, if_none, of_block, by_verdict, mark_of, plain_reply}
use Rattle.history.specs.Run.{reply_to, history}
use Rattle.history.specs.Mission.{listed, NumberListed, Names, ModelNamed, CounterNamed, DeliveryNamed}
use Rattle.history.proofs.Pairs.{model_held_right, mark_taken}
use Rattle.history.proofs.Plain.{right_pair, as_plain_pair}
use Rattle.outcome.specs.declared.Refusal.{Refusal}
use Rattle.outcome.specs.Outcomes.{Outcome, Accepted, Refused}
use Rattle.std.specs.Prelude.{Some, None, Err, Ok}

-- ---- numbers in a list

-- a, a + 1, …: n numbers.
abbrev from : ℕ → ℕ → List ℕ
from zero a = []
from (suc n) a = a ∷ from n (suc a)

in_from : (n a x : ℕ) → a ≤ x → x < a + n → In x (from n a)
in_from zero a x le lt = absurd (omega arith)
in_from (suc n) a x le lt = go (eqb x a) refl (λ l. in_from n (suc a) x l (omega arith))
  where
    go : (t : Bool) → eqb x a ≡ t → (suc a ≤ x → In x (from n (suc a))) → In x (a ∷ from n (suc a))
    go true e later = inl (eqb-true x a e)
    go false e later = inr (later (let apart = eqb-false x a e in omega (arith, apart)))

-- ---- a file's refusal is its verdict's

by_verdict_lem : (o : Outcome) (r : Reply) {n i : ℕ} {k : ℤ} → taken r ≡ true → by_verdict o r ≡ refused n i k
    → (x : Reason) × (o ≡ Refused x i k) × (number_of x ≡ n)
by_verdict_lem (Ok u) r t e = absurd (false≢true (sym (ap taken e) ∙ t))
by_verdict_lem (Err why) r {n} {i} {k} t e =
    let place : why.place ≡ i = cc in
    let shortfall : why.shortfall ≡ k = cc in
    (why.reason, rw (place, shortfall), cc)

module _ (ts : List Test) (r : Reply) (stands : taken r ≡ true) {n i : ℕ} {k : ℤ} where
  pub named : by_verdict (first ts) r ≡ refused n i k → Names ts n i k
  named e =
      let (x, is, number) = by_verdict_lem (first ts) r stands e in
      let (t, (found, same)) = first_failure ts _ is in
      let why : ◌≡◌ {A = Refusal} (record { reason = t.reason; place = t.place; shortfall = t.shortfall }) (record { reason = x; place = i; shortfall = k }) = cc in
      record {
        test = t;
        failure = found;
        number_named = ap (λ (w : Refusal). number_of w.reason) why ∙ number;
        place_named = ap (λ (w : Refusal). w.place) why;
        shortfall_named = ap (λ (w : Refusal). w.shortfall) why;
      }

  pub names : Names ts n i k → by_verdict (first ts) r ≡ refused n i k
  names x = rw (refused_exactly ts x.test x.failure, x.number_named, x.place_named, x.shortfall_named)

-- Beside an accepted model the delivery's own tests decide.
pub verdict_after : (b d : List ℕ) → model_verdict b ≡ Accepted → verdict b d ≡ first (delivery_tests b d)
unfolding verdict model_verdict
verdict_after b d is = first_after (model_tests b) (delivery_tests b d) is

pub model_named : (cs : List Call) → ModelNamed cs
unfolding plain_reply model_verdict
model_named cs b n i k free =
    let same : reply_to cs (file_model b) ≡ by_verdict (first (model_tests b)) accepted = as_plain_pair cs (file_model b) ∙ rw free in
    (λ e. named (model_tests b) accepted refl (sym same ∙ e), λ x. same ∙ names (model_tests b) accepted refl x)

pub counter_named : (cs : List Call) → CounterNamed cs
unfolding plain_reply counter_verdict
counter_named cs c n i k free =
    let same : reply_to cs (file_counter c) ≡ by_verdict (first (counter_tests c)) accepted = as_plain_pair cs (file_counter c) ∙ rw free in
    (λ e. named (counter_tests c) accepted refl (sym same ∙ e), λ x. same ∙ names (counter_tests c) accepted refl x)

pub delivery_named : (cs : List Call) → DeliveryNamed cs
unfolding plain_reply
delivery_named cs b d n i k held =
    let is = model_held_right (last_delivery (history cs)) (right_pair cs) held in
    let mark = mark_of b (last_delivery (history cs)) d in
    let same : reply_to cs (file_delivery d) ≡ by_verdict (first (delivery_tests b d)) mark =
    as_plain_pair cs (file_delivery d) ∙ rw (held, verdict_after b d is) in
    let stands = mark_taken b d (last_delivery (history cs)) in
    (λ e. named (delivery_tests b d) mark stands (sym same ∙ e), λ x. same ∙ names (delivery_tests b d) mark stands x)

-- ---- the numbers of each call

module _ {n i : ℕ} {k : ℤ} where
  of_model_lem : (m : Option (List ℕ)) (h : List ℕ → Reply) (ns : List ℕ) → ((b : List ℕ) → m ≡ some b → h b ≡ refused n i k → In n ns)
      → of_model m h ≡ refused n i k → In n (40 ∷ ns)
  of_model_lem none h ns f e = inl cc
  of_model_lem (some b) h ns f e = inr (f b refl e)

  of_delivery_lem : (y : Option (List ℕ)) (h : List ℕ → Reply) (ns : List ℕ) → ((d : List ℕ) → h d ≡ refused n i k → In n ns)
      → of_delivery y h ≡ refused n i k → In n (42 ∷ ns)
  of_delivery_lem none h ns f e = inl cc
  of_delivery_lem (some d) h ns f e = inr (f d e)

  of_test : (t : Bool) (r : Reply) (a : ℕ) (ns : List ℕ) → (r ≡ refused n i k → In n ns) → cond t r (Calls.refusal a) ≡ refused n i k → In n (a ∷ ns)
  of_test true r a ns f e = inr (f e)
  of_test false r a ns f e = inl cc

  no_refusal : (v : ℕ) (ns : List ℕ) → value v ≡ refused n i k → In n ns
  no_refusal v ns e = let z : ◌≡◌ {A = ℕ} 0 1 = cc in absurd (omega arith)

  of_block_lem : (has : Shape → Bool) (t : Library.Option Shape) (v : Shape → ℕ) → of_block has t (λ h. value (v h)) ≡ refused n i k → In n (43 ∷ [])
  of_block_lem has (Some h) v e = of_test (has h) (value (v h)) 43 [] (no_refusal (v h) []) e
  of_block_lem has None v e = inl cc

  of_file : (m : Option (List ℕ)) (b : List ℕ) → if_none m (by_verdict (model_verdict b) accepted) ≡ refused n i k → In n (listed (file_model b))
  of_file none b e =
      let (x, is, number) = by_verdict_lem (model_verdict b) accepted refl e in
      let (least, most) = model_number b x i k is in
      inr (in_from 6 10 n (rw number at least) (omega (arith, rw number at most)))
  of_file (some a) b e = inl cc

  of_counter : (m : Option (List ℕ)) (c : List ℕ) → if_none m (by_verdict (counter_verdict c) accepted) ≡ refused n i k → In n (listed (file_counter c))
  of_counter none c e =
      let (x, is, number) = by_verdict_lem (counter_verdict c) accepted refl e in
      let (least, most) = counter_number c x i k is in
      inr (in_from 3 46 n (rw number at least) (omega (arith, rw number at most)))
  of_counter (some a) c e = inl cc

  -- A second delivery, or one that is filed, by the verdict on it.
  of_judged : (b d : List ℕ) (r : Reply) → taken r ≡ true → model_verdict b ≡ Accepted → by_verdict (verdict b d) r ≡ refused n i k → In n (from 8 20)
  of_judged b d r stands is e =
      let (x, found, number) = by_verdict_lem (verdict b d) r stands e in
      let (least, most) = delivery_number b d x i k (sym (verdict_after b d is) ∙ found) in
      in_from 8 20 n (rw number at least) (omega (arith, rw number at most))

  of_delivered : (b d : List ℕ) (y : Option (List ℕ)) → model_verdict b ≡ Accepted → by_verdict (verdict b d) (mark_of b y d) ≡ refused n i k
      → In n (from 8 20)
  of_delivered b d y is e = of_judged b d (mark_of b y d) (mark_taken b d y) is e

  of_merged : (b f d : List ℕ) → model_verdict b ≡ Accepted → by_verdict (verdict b d) (mark_of b (some f) (merged b f d)) ≡ refused n i k → In n (from 8 20)
  of_merged b f d is e = of_judged b d _ (mark_taken b (merged b f d) (some f)) is e

pub number_listed : (cs : List Call) → NumberListed cs
unfolding plain_reply
number_listed cs clear n i k e = let z : ◌≡◌ {A = ℕ} 0 1 = let same = as_plain_pair cs clear in cc in absurd (omega arith)
number_listed cs (file_model b) n i k e = of_file (last_model (history cs)) b (sym (as_plain_pair cs (file_model b)) ∙ e)
number_listed cs (file_counter c) n i k e = of_counter (last_model (history cs)) c (sym (as_plain_pair cs (file_counter c)) ∙ e)
number_listed cs (file_delivery d) n i k e =
    let y = last_delivery (history cs) in
    of_model_lem (last_model (history cs)) (λ b. by_verdict (verdict b d) (mark_of b y d)) (from 8 20)
    (λ b held. of_delivered b d y (model_held_right y (right_pair cs) held)) (sym (as_plain_pair cs (file_delivery d)) ∙ e)
number_listed cs (merge d) n i k e =
    of_model_lem (last_model (history cs)) _ (42 ∷ from 8 20) (λ b held. of_delivery_lem (last_delivery (history cs)) _ (from 8 20)
    (λ f. of_merged b f d (model_held_right (last_delivery (history cs)) (right_pair cs) held))) (sym (as_plain_pair cs (merge d)) ∙ e)
number_listed cs (upper p z q) n i k e =
    of_model_lem (last_model (history cs)) _ (42 ∷ 44 ∷ []) (λ b held. of_delivery_lem (last_delivery (history cs)) _ (44 ∷ [])
    (λ d. of_test ((ltb p (states_of b) && ltb z (symbols_of b)) && ltb q (states_of b)) _ 44 [] (no_refusal (uppers_of (states_of b) (symbols_of b) d p z q) [])))
    (sym (as_plain_pair cs (upper p z q)) ∙ e)
number_listed cs (lower p z q) n i k e =
    of_model_lem (last_model (history cs)) _ (42 ∷ 44 ∷ 43 ∷ []) (λ b held. of_delivery_lem (last_delivery (history cs)) _ (44 ∷ 43 ∷ [])
    (λ d. of_test ((ltb p (states_of b) && ltb z (symbols_of b)) && ltb q (states_of b)) _ 44 (43 ∷ [])
    (of_block_lem has_lowers (shape_of (states_of b) (symbols_of b) d) (λ h. lowers_of (states_of b) (symbols_of b) d p z q))))
    (sym (as_plain_pair cs (lower p z q)) ∙ e)
number_listed cs (mean_steps p z) n i k e =
    of_model_lem (last_model (history cs)) _ (42 ∷ 44 ∷ 43 ∷ []) (λ b held. of_delivery_lem (last_delivery (history cs)) _ (44 ∷ 43 ∷ [])
    (λ d. of_test (ltb p (states_of b) && ltb z (symbols_of b)) _ 44 (43 ∷ [])
    (of_block_lem has_means (shape_of (states_of b) (symbols_of b) d) (λ h. means_of (states_of b) (symbols_of b) h d p z))))
    (sym (as_plain_pair cs (mean_steps p z)) ∙ e)
number_listed cs margin n i k e =
    of_model_lem (last_model (history cs)) _ (42 ∷ 43 ∷ []) (λ b held. of_delivery_lem (last_delivery (history cs)) _ (43 ∷ [])
    (λ d. of_block_lem has_lowers (shape_of (states_of b) (symbols_of b) d) (λ h. margin_of b d)))
    (sym (as_plain_pair cs margin) ∙ e)
number_listed cs (live p z q) n i k e =
    of_model_lem (last_model (history cs)) _ (44 ∷ [])
    (λ b held. of_test ((ltb p (states_of b) && ltb z (symbols_of b)) && ltb q (states_of b)) _ 44 [] (no_refusal (live_mark b p z q) []))
    (sym (as_plain_pair cs (live p z q)) ∙ e)
number_listed cs (within m p z q) n i k e =
    of_model_lem (last_model (history cs)) _ (44 ∷ 45 ∷ [])
    (λ b held. of_test ((ltb p (states_of b) && ltb z (symbols_of b)) && ltb q (states_of b)) _ 44 (45 ∷ [])
    (of_test (leb m 3) _ 45 [] (no_refusal (chance (rules_of b) m p z q) [])))
    (sym (as_plain_pair cs (within m p z q)) ∙ e)
