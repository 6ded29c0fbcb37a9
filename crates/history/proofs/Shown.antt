-- Mission point 3 for what the questions answer after any list of calls: a number that is answered is one of files that are held and
-- accepted, and is true of the runs of the held model.
use Prim.Native.Nat.{ℕ, ◌+◌, ◌*◌, ◌^◌, ◌≤◌, ◌<◌}
use Rattle.std.specs.Prelude as Library
use native.Mathlib.Omega.{arith}
use mathlib.Core.Bool.{Bool, true, false, cond, ◌&&◌}
use mathlib.Core.List.{List, flat_map}
use mathlib.Core.Option.{Option, none, some}
use mathlib.Core.Path.{◌≡◌, refl, sym, ap, subst, ◌∙◌}
use lib.Dec.{ltb, leb}
use borrow.Author.Tests.{lt-ltb}
use Rattle.walks.proofs.Exactly.{lt_exactly, le_exactly, both}
use Rattle.walks.specs.Sums.{sum, sum_to}
use Rattle.walks.specs.Order.{AtRows}
use Rattle.ppda.specs.Rules.{fits}
use Rattle.walks.specs.Lists.{lists}
use Rattle.ppda.specs.Runs.{after, weigh, over_runs, over_runs_within}
use Rattle.ppda.specs.Chances.{chance_from, chance, returned_within}
use Rattle.ppda.specs.Bounds.{UpperHolds, MeanHolds, TailHolds}
use Rattle.ppda.proofs.Marks.{alive_is_bit}
use Rattle.ppda.proofs.Tail.{window_enough}
use Rattle.ppda.proofs.TailEdges.{no_figure}
use Rattle.model.specs.Records.{states_of, symbols_of}
use Rattle.model.specs.Rules.{rules_of}
use Rattle.model.specs.W.{w_file}
use Rattle.wellformed.specs.Verdict.{model_verdict}
use Rattle.delivery.specs.declared.shape.Shape.{Shape}
use Rattle.delivery.specs.Shapes.{has_lowers, has_means, shape_of}
use Rattle.delivery.specs.Numbers.{uppers_of, lowers_of, means_of}
use Rattle.verdict.specs.Marks.{live_mark}
use Rattle.verdict.proofs.Marks.{live_marks_by_runs}
use Rattle.verdict.specs.Verdict.{verdict}
use Rattle.certificate.specs.Margin.{margin_of}
use Rattle.certificate.specs.Promised.{TrueFor}
use Rattle.certificate.specs.Edges.{z_to_z}
use Rattle.certificate.proofs.Edges.{w_said, z_to_z_said, z_to_z_states}
use Rattle.certificate.proofs.Holds.{accepted_true, true_of_shape}
use Rattle.calls.specs.Calls.{Call, upper, lower, mean_steps, margin, live, within, Reply, value, refusal}
use Rattle.history.specs.Plain.{last_model, last_delivery, of_model, of_delivery, of_block, at_entry, at_row, to_three, plain_reply}
use Rattle.history.specs.Run.{reply_to, history}
use Rattle.history.specs.Mission.{Holds, UpperShown, LowerHeld, LowerShown, MeanShown, TailShown, LiveShown, ShortShown, ShortUnderUpper}
use Rattle.history.proofs.Pairs.{lower_reply, mean_reply, Right, model_held_right}
use Rattle.history.proofs.Plain.{right_pair, as_plain_pair}
use Rattle.outcome.specs.Outcomes.{Accepted}
use Rattle.std.specs.Prelude.{Some, None}

-- ---- what a number that is answered says of the pair

no_number : {k n : ℕ} → refusal k ≡ value n → ⊥
no_number e = let z : ◌≡◌ {A = ℕ} 0 1 = cc in omega arith

model_asked : (m : Option (List ℕ)) (h : List ℕ → Reply) {n : ℕ} → of_model m h ≡ value n → (b : List ℕ) × (m ≡ some b) × (h b ≡ value n)
model_asked none h e = absurd (no_number e)
model_asked (some b) h e = (b, refl, e)

delivery_asked : (y : Option (List ℕ)) (h : List ℕ → Reply) {n : ℕ} → of_delivery y h ≡ value n
    → (d : List ℕ) × (y ≡ some d) × (h d ≡ value n)
delivery_asked none h e = absurd (no_number e)
delivery_asked (some d) h e = (d, refl, e)

-- A test that is passed, else the refusal k.
test_passed : (t : Bool) (r : Reply) (k : ℕ) {n : ℕ} → cond t r (refusal k) ≡ value n → (t ≡ true) × (r ≡ value n)
test_passed true r k e = (refl, e)
test_passed false r k e = absurd (no_number e)

pub block_asked : (has : Shape → Bool) (t : Library.Option Shape) (h : Shape → Reply) {n : ℕ} → of_block has t h ≡ value n
    → (k : Shape) × (t ≡ Some k) × (has k ≡ true) × (h k ≡ value n)
block_asked has (Some k) h e = let (stands, same) = test_passed (has k) (h k) 43 e in (k, refl, stands, same)
block_asked has None h e = absurd (no_number e)

pub entry_asked : (s g p z q : ℕ) (r : Reply) {n : ℕ} → cond ((ltb p s && ltb z g) && ltb q s) r (refusal 44) ≡ value n
    → (p < s) × (z < g) × (q < s) × (r ≡ value n)
entry_asked s g p z q r e =
    let (test, reply) = test_passed ((ltb p s && ltb z g) && ltb q s) r 44 e in
    let ((hp, hz), hq) = (both _ _ (both _ _ (lt_exactly p s) (lt_exactly z g)) (lt_exactly q s)).0 test in
    (hp, hz, hq, reply)

pub row_asked : (s g p z : ℕ) (r : Reply) {n : ℕ} → cond (ltb p s && ltb z g) r (refusal 44) ≡ value n → (p < s) × (z < g) × (r ≡ value n)
row_asked s g p z r e =
    let (test, reply) = test_passed (ltb p s && ltb z g) r 44 e in
    let (hp, hz) = (both _ _ (lt_exactly p s) (lt_exactly z g)).0 test in
    (hp, hz, reply)

-- The files that are held after the calls.
pub record Files (cs : List Call) (b d : List ℕ) : Type 0 where
  pub model : Holds cs b
  pub delivery : last_delivery (history cs) ≡ some d
  pub accepted : verdict b d ≡ Accepted

files_right : {m y : Option (List ℕ)} {b d : List ℕ} → Right m y → m ≡ some b → y ≡ some d → verdict b d ≡ Accepted
files_right right model delivery = rw (model, delivery) at right

pub files_asked : (cs : List Call) (h : List ℕ → List ℕ → Reply) {n : ℕ}
    → of_model (last_model (history cs)) (λ b. of_delivery (last_delivery (history cs)) (h b)) ≡ value n
    → (b : List ℕ) × (d : List ℕ) × Files cs b d × (h b d ≡ value n)
files_asked cs h e =
    let (b, model, inner) = model_asked (last_model (history cs)) _ e in
    let (d, delivery, reply) = delivery_asked (last_delivery (history cs)) (h b) inner in
    (b, d, record { model = model; delivery = delivery; accepted = files_right (right_pair cs) model delivery }, reply)

-- ---- point 3, for the files b and d that are held

module _ {cs : List Call} {b d : List ℕ} (files : Files cs b d) where
  upper_of : (p z q u : ℕ) → at_entry b p z q (value (uppers_of (states_of b) (symbols_of b) d p z q)) ≡ value u → UpperHolds (rules_of b) p z q u
  upper_of p z q u e =
      let (hp, hz, hq, reply) = entry_asked (states_of b) (symbols_of b) p z q (value (uppers_of (states_of b) (symbols_of b) d p z q)) e in
      let same : uppers_of (states_of b) (symbols_of b) d p z q ≡ u = cc in
      rw same at ((accepted_true b d files.accepted).bounds.uppers p z q hp hz hq)

  upper_replied : (p z q : ℕ) → p < states_of b → z < symbols_of b → q < states_of b
      → reply_to cs (upper p z q) ≡ value (uppers_of (states_of b) (symbols_of b) d p z q)
  unfolding plain_reply
  upper_replied p z q hp hz hq =
      as_plain_pair cs (upper p z q)
      ∙ rw (files.model, files.delivery, lt-ltb p (states_of b) hp, lt-ltb z (symbols_of b) hz, lt-ltb q (states_of b) hq)

  margin_replied : {h : Shape} → shape_of (states_of b) (symbols_of b) d ≡ Some h → has_lowers h ≡ true → reply_to cs margin ≡ value (margin_of b d)
  unfolding plain_reply
  margin_replied shape has = as_plain_pair cs margin ∙ rw (files.model, files.delivery, shape, has)

  lower_of : (p z q l : ℕ) → at_entry b p z q (lower_reply b d p z q) ≡ value l → LowerHeld cs p z q l
  lower_of p z q l e =
      let (hp, hz, hq, inner) = entry_asked (states_of b) (symbols_of b) p z q (lower_reply b d p z q) e in
      let (h, shape, has, reply) = block_asked has_lowers (shape_of (states_of b) (symbols_of b) d) _ inner in
      let same : lowers_of (states_of b) (symbols_of b) d p z q ≡ l = cc in
      record {
        model = b;
        upper_answered = uppers_of (states_of b) (symbols_of b) d p z q;
        margin_answered = margin_of b d;
        held = files.model;
        upper_asked = upper_replied p z q hp hz hq;
        margin_asked = margin_replied shape has;
        holds = rw same at ((true_of_shape b d h files.accepted shape).lowers has p z q hp hz hq);
      }

  figure_of : (P : ℕ → ℕ → ℕ → Type 0)
      → ((h : Shape) → TrueFor b d (states_of b) (symbols_of b) h → has_means h ≡ true → AtRows (states_of b) (symbols_of b) (λ p z. P p z (means_of (states_of b) (symbols_of b) h d p z)))
      → (p z r : ℕ) → at_row b p z (mean_reply b d p z) ≡ value r → P p z r
  figure_of P holds p z r e =
      let (hp, hz, inner) = row_asked (states_of b) (symbols_of b) p z (mean_reply b d p z) e in
      let (h, shape, has, reply) = block_asked has_means (shape_of (states_of b) (symbols_of b) d) _ inner in
      let same : means_of (states_of b) (symbols_of b) h d p z ≡ r = cc in
      subst (P p z) same (holds h (true_of_shape b d h files.accepted shape) has p z hp hz)

-- ---- point 3, after any list of calls

pub upper_shown : (cs : List Call) → UpperShown cs
unfolding plain_reply
upper_shown cs p z q u e =
    let (b, d, files, reply) = files_asked cs (λ b d. at_entry b p z q (value (uppers_of (states_of b) (symbols_of b) d p z q)))
    (sym (as_plain_pair cs (upper p z q)) ∙ e) in
    (b, files.model, upper_of files p z q u reply)

pub lower_shown : (cs : List Call) → LowerShown cs
unfolding plain_reply
lower_shown cs p z q l e =
    let (b, d, files, reply) = files_asked cs (λ b d. at_entry b p z q (lower_reply b d p z q)) (sym (as_plain_pair cs (lower p z q)) ∙ e) in
    lower_of files p z q l reply

-- What holds of each row and its figure in the held delivery holds of the figure that is answered.
figure_shown : (P : List ℕ → ℕ → ℕ → ℕ → Type 0)
    → ((b d : List ℕ) (h : Shape) → TrueFor b d (states_of b) (symbols_of b) h → has_means h ≡ true
    → AtRows (states_of b) (symbols_of b) (λ p z. P b p z (means_of (states_of b) (symbols_of b) h d p z)))
    → (cs : List Call) (p z r : ℕ) → reply_to cs (mean_steps p z) ≡ value r → (b : List ℕ) × Holds cs b × P b p z r
unfolding plain_reply
figure_shown P holds cs p z r e =
    let (b, d, files, reply) = files_asked cs (λ b d. at_row b p z (mean_reply b d p z)) (sym (as_plain_pair cs (mean_steps p z)) ∙ e) in
    (b, files.model, figure_of files (P b) (holds b d) p z r reply)

pub mean_shown : (cs : List Call) → MeanShown cs
mean_shown = figure_shown (λ b. MeanHolds (rules_of b)) (λ b d h holds. holds.means)

pub tail_shown : (cs : List Call) → TailShown cs
tail_shown = figure_shown (λ b. TailHolds (rules_of b) (states_of b)) (λ b d h holds. holds.tails)

live_bit : (b : List ℕ) (p z q : ℕ) → model_verdict b ≡ Accepted → live_mark b p z q ≤ 1
unfolding live_mark
live_bit b p z q is = rw is (alive_is_bit (rules_of b) (states_of b) (symbols_of b) p z q)

pub live_shown : (cs : List Call) → LiveShown cs
unfolding plain_reply
live_shown cs p z q a e =
    let (b, held, inner) = model_asked (last_model (history cs)) (λ b. at_entry b p z q (value (live_mark b p z q)))
    (sym (as_plain_pair cs (live p z q)) ∙ e) in
    let (hp, hz, hq, reply) = entry_asked (states_of b) (symbols_of b) p z q (value (live_mark b p z q)) inner in
    let is = model_held_right (last_delivery (history cs)) (right_pair cs) held in
    let same : live_mark b p z q ≡ a = cc in
    (b, held, rw same at (live_marks_by_runs b is p z q hp hz hq), rw same at (live_bit b p z q is))

pub short_shown : (cs : List Call) → ShortShown cs
unfolding plain_reply
short_shown cs n p z q c e =
    let (b, held, inner) = model_asked (last_model (history cs)) (λ b. at_entry b p z q (to_three n (value (chance (rules_of b) n p z q))))
    (sym (as_plain_pair cs (within n p z q)) ∙ e) in
    let (hp, hz, hq, reply) = entry_asked (states_of b) (symbols_of b) p z q (to_three n (value (chance (rules_of b) n p z q))) inner in
    let (few, number) = test_passed (leb n 3) (value (chance (rules_of b) n p z q)) 45 reply in
    let same : c ≡ chance (rules_of b) n p z q = cc in
    (b, held, same, (le_exactly n 3).0 few)

-- The model is the one for which the upper holds.
pub short_under_upper : (cs : List Call) → ShortUnderUpper cs
short_under_upper cs n p z q c u asked bound =
    let (b, held, same, few) = short_shown cs n p z q c asked in
    let (a, again, holds) = upper_shown cs p z q u bound in
    let one : a ≡ b = cc in
    rw (same, ← one) (holds n)

-- ---- what the two promises say of the request's figure

-- An upper that is shown beside it is 0.5625 or more.
pub short_bites : (cs : List Call) (u : ℕ) → ShortUnderUpper cs → reply_to cs (within 3 0 0 0) ≡ value 158329674399744 → reply_to cs (upper 0 0 0) ≡ value u
    → 589824 ≤ u
short_bites cs u under asked bound = omega (arith, under 3 0 0 0 158329674399744 u asked bound)

-- For W it is the number that is shown.
pub short_shown_bites : (cs : List Call) (c : ℕ) → ShortShown cs → Holds cs w_file → reply_to cs (within 3 0 0 0) ≡ value c → c ≡ 158329674399744
unfolding chance_from over_runs_within over_runs sum_to sum lists flat_map after weigh fits
short_shown_bites cs c shown held asked =
    let (b, again, same, few) = shown 3 0 0 0 c asked in
    let one : b ≡ w_file = cc in
    same ∙ ap (λ f. chance (rules_of f) 3 0 0 0) one ∙ ap (λ m. chance m 3 0 0 0) w_said

-- ---- what the tail says to who books a window

-- Booked n steps with n at least r/(1 − share), the share a/(a + d) is back: 100 times the mean for 99 in 100.
pub window_booked : (cs : List Call) (p z r n a d : ℕ) → TailShown cs → reply_to cs (mean_steps p z) ≡ value r → 0 < n → r * (a + d) ≤ n * 2 ^ 8 * d
    → (b : List ℕ) × Holds cs b × (a * 65536 ^ n ≤ (a + d) * returned_within (rules_of b) (states_of b) n p z)
window_booked cs p z r n a d shown asked at_least_one enough =
    let (b, held, holds) = shown p z r asked in
    (b, held, window_enough n (returned_within (rules_of b) (states_of b) n p z) r a d at_least_one (holds n) enough)

-- Where nobody returns, as where document 01's Z to Z is held, no mean steps are shown: some n would refute them.
pub tail_shown_bites : (cs : List Call) (r : ℕ) → TailShown cs → Holds cs z_to_z → reply_to cs (mean_steps 0 0) ≡ value r → ⊥
tail_shown_bites cs r shown held asked =
    let (b, again, holds) = shown 0 0 r asked in
    let one : b ≡ z_to_z = cc in
    no_figure r (rw (one, z_to_z_said, z_to_z_states) at holds)
