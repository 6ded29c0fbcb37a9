-- The plain pair of document 01: "the last accepted model since the last clearing, and the last delivery accepted for it", and what such a
-- pair of files replies to a call.
use Rattle.std.specs.Prelude.{ℕ, Bool, false, cond, ◌&&◌, List, [], ◌∷◌, eqb, ltb, leb, Some, None, Err, Ok}
use Rattle.std.specs.Prelude as Library
use Rattle.std.proofs.Math.Option.{Option, none, some}
use Rattle.outcome.specs.Reasons.{number_of}
use Rattle.walks.specs.Sums.{all_to}
use Rattle.ppda.specs.Chances.{chance}
use Rattle.model.specs.Records.{states_of, symbols_of}
use Rattle.model.specs.Rules.{rules_of}
use Rattle.wellformed.specs.Verdict.{model_verdict}
use Rattle.delivery.specs.declared.shape.Shape.{Shape}
use Rattle.delivery.specs.Records.{kind_at, state_at, symbol_at, exit_at, value_at}
use Rattle.delivery.specs.Shapes.{has_lowers, has_means, same_shape, records_in, shape_of}
use Rattle.delivery.specs.Numbers.{uppers_of, lowers_of, means_of}
use Rattle.delivery.specs.Merged.{merged}
use Rattle.verdict.specs.Marks.{live_mark}
use Rattle.verdict.specs.Verdict.{verdict}
use Rattle.certificate.specs.Margin.{margin_of}
use Rattle.counter.specs.Verdict.{counter_verdict}
use Rattle.counter.specs.Made.{counter_model}
use Rattle.calls.specs.Calls.{Call, clear, file_model, file_counter, file_delivery, merge, upper, lower, mean_steps, margin, live, within, Reply, cleared, accepted, known, new, value, refused, refusal, taken}
use Rattle.outcome.specs.Outcomes.{Outcome, Accepted, Refused}

-- ---- which files are held

-- A call and its reply. A history stands latest first.
pub record Event : Type 0 where
  pub call : Call
  pub reply : Reply

-- The model last accepted since the last clearing: by one call more, whose reply says whether a file was taken. Of a counter file it is the model that the
-- file makes (request A.2).
abbrev pub model_after : Call → Bool → Option (List ℕ) → Option (List ℕ)
model_after clear t former = none
model_after (file_model b) t former = cond t (some b) former
model_after (file_counter c) t former = cond t (some (counter_model c)) former
model_after (file_delivery d) t former = former
model_after (merge d) t former = former
model_after (upper p z q) t former = former
model_after (lower p z q) t former = former
model_after (mean_steps p z) t former = former
model_after margin t former = former
model_after (live p z q) t former = former
model_after (within n p z q) t former = former

unfoldable pub last_model : List Event → Option (List ℕ)
last_model [] = none
last_model (e ∷ es) = model_after e.call (taken e.reply) (last_model es)

-- The file merged of the delivery that is held and d, for the model m that is held (request A.5).
abbrev pub merged_with : Option (List ℕ) → Option (List ℕ) → List ℕ → Option (List ℕ)
merged_with none former d = none
merged_with (some b) none d = none
merged_with (some b) (some e) d = some (merged b e d)

-- The delivery last accepted for the model m that is held. One that was accepted before the model was is for another. Of a merge it is the merged file, which
-- "counts as a file accepted" (request A.5).
abbrev pub delivery_after : Call → Bool → Option (List ℕ) → Option (List ℕ) → Option (List ℕ)
delivery_after clear t m former = none
delivery_after (file_model b) t m former = cond t none former
delivery_after (file_counter c) t m former = cond t none former
delivery_after (file_delivery d) t m former = cond t (some d) former
delivery_after (merge d) t m former = cond t (merged_with m former d) former
delivery_after (upper p z q) t m former = former
delivery_after (lower p z q) t m former = former
delivery_after (mean_steps p z) t m former = former
delivery_after margin t m former = former
delivery_after (live p z q) t m former = former
delivery_after (within n p z q) t m former = former

unfoldable pub last_delivery : List Event → Option (List ℕ)
last_delivery [] = none
last_delivery (e ∷ es) = delivery_after e.call (taken e.reply) (last_model es) (last_delivery es)

-- The plain pair.
pub record Pair : Type 0 where
  pub model : Option (List ℕ)
  pub delivery : Option (List ℕ)

abbrev pub pair_of : List Event → Pair
pair_of es = record { model = last_model es; delivery = last_delivery es }

-- ---- what a pair replies: the reasons found in the register come first, in the order 40, 41, 42, 44, 43, 45

-- 40, 42: no model, no delivery is held.
abbrev pub of_model : Option (List ℕ) → (List ℕ → Reply) → Reply
of_model none h = refusal 40
of_model (some b) h = h b

abbrev pub of_delivery : Option (List ℕ) → (List ℕ → Reply) → Reply
of_delivery none h = refusal 42
of_delivery (some d) h = h d

-- 41: a model is held.
abbrev pub if_none : Option (List ℕ) → Reply → Reply
if_none none r = r
if_none (some b) r = refusal 41

-- 44: a state or symbol is not of the held model b.
abbrev pub at_row : List ℕ → ℕ → ℕ → Reply → Reply
at_row b p z r = cond (ltb p (states_of b) && ltb z (symbols_of b)) r (refusal 44)

abbrev pub at_entry : List ℕ → ℕ → ℕ → ℕ → Reply → Reply
at_entry b p z q r = cond ((ltb p (states_of b) && ltb z (symbols_of b)) && ltb q (states_of b)) r (refusal 44)

-- 43: the held delivery's shape does not have the block.
abbrev pub of_block : (Shape → Bool) → Library.Option Shape → (Shape → Reply) → Reply
of_block has (Some h) k = cond (has h) (k h) (refusal 43)
of_block has None k = refusal 43

-- 45: n is above 3 (request A.1).
abbrev pub to_three : ℕ → Reply → Reply
to_three n r = cond (leb n 3) r (refusal 45)

-- The reply to a file by its verdict.
abbrev pub by_verdict : Outcome → Reply → Reply
by_verdict (Ok u) r = r
by_verdict (Err why) r = refused (number_of why.reason) why.place why.shortfall

-- Record i is the same in two deliveries: kind, p, Z, q and value.
abbrev pub same_record : List ℕ → List ℕ → ℕ → Bool
same_record d e i =
    eqb (kind_at d i) (kind_at e i)
    && (eqb (state_at d i) (state_at e i)
    && (eqb (symbol_at d i) (symbol_at e i) && (eqb (exit_at d i) (exit_at e i) && eqb (value_at d i) (value_at e i))))

-- Two deliveries by their shapes, for a model with s states and g symbols: the shape is the same, and every record.
abbrev pub same_as : ℕ → ℕ → Library.Option Shape → Library.Option Shape → List ℕ → List ℕ → Bool
same_as s g (Some h) (Some k) d e = same_shape h k && all_to (same_record d e) (records_in s g h)
same_as s g (Some h) None d e = false
same_as s g None k d e = false

-- Two deliveries for the model b are the same.
unfoldable pub same_delivery : List ℕ → List ℕ → List ℕ → Bool
same_delivery b d e =
    same_as (states_of b) (symbols_of b) (shape_of (states_of b) (symbols_of b) d) (shape_of (states_of b) (symbols_of b) e) d e

-- Document 01's marks, as request A.3 amends them: "known if its shape and every record equal the held one, and otherwise new".
abbrev pub mark_of : List ℕ → Option (List ℕ) → List ℕ → Reply
mark_of b none d = new
mark_of b (some e) d = cond (same_delivery b e d) known new

-- The reply of the plain pair.
unfoldable pub plain_reply : Pair → Call → Reply
plain_reply x clear = cleared
plain_reply x (file_model b) = if_none x.model (by_verdict (model_verdict b) accepted)
-- Request A.2: 41 first, then the verdict on the counter file. No verdict on the model that it makes: that can fail nothing (`made_accepted`, crate counter).
plain_reply x (file_counter c) = if_none x.model (by_verdict (counter_verdict c) accepted)
plain_reply x (file_delivery d) = of_model x.model (λ b. by_verdict (verdict b d) (mark_of b x.delivery d))
-- Request A.5: 40 and 42 first, then the verdict on the second delivery. No verdict on the merged one: that can fail nothing (`merged_accepted`, crate merging).
-- "Its mark compares it with the delivery held before the merge."
plain_reply x (merge d) =
    of_model x.model (λ b. of_delivery x.delivery (λ e. by_verdict (verdict b d) (mark_of b (some e) (merged b e d))))
plain_reply x (upper p z q) =
    of_model x.model (λ b. of_delivery x.delivery (λ d. at_entry b p z q (value (uppers_of (states_of b) (symbols_of b) d p z q))))
plain_reply x (lower p z q) =
    of_model x.model (λ b. of_delivery x.delivery (λ d.
    at_entry b p z q (of_block has_lowers (shape_of (states_of b) (symbols_of b) d) (λ h. value (lowers_of (states_of b) (symbols_of b) d p z q)))))
plain_reply x (mean_steps p z) =
    of_model x.model (λ b. of_delivery x.delivery (λ d.
    at_row b p z (of_block has_means (shape_of (states_of b) (symbols_of b) d) (λ h. value (means_of (states_of b) (symbols_of b) h d p z)))))
plain_reply x margin =
    of_model x.model (λ b. of_delivery x.delivery (λ d.
    of_block has_lowers (shape_of (states_of b) (symbols_of b) d) (λ h. value (margin_of b d))))
plain_reply x (live p z q) = of_model x.model (λ b. at_entry b p z q (value (live_mark b p z q)))
-- Request A.1: the chance within n steps over the runs of the model's rules, over 65,536 ^ n.
plain_reply x (within n p z q) = of_model x.model (λ b. at_entry b p z q (to_three n (value (chance (rules_of b) n p z q))))

-- The replies of the plain pair to calls in the order of time, after the history es.
unfoldable pub plain_replies : List Event → List Call → List Reply
plain_replies es [] = []
plain_replies es (c ∷ cs) =
    plain_reply (pair_of es) c ∷ plain_replies (record { call = c; reply = plain_reply (pair_of es) c } ∷ es) cs
