-- The code's responses are those of the definitions, and a file that is not read does not matter.
use Prim.Native.Nat.{ℕ}
use mathlib.Core.Bool.{Bool, true, false, cond, ◌&&◌, false≢true}
use mathlib.Core.List.{List}
use lib.IntN.{pos}
use mathlib.Core.Path.{◌≡◌, refl, sym, ap, ◌∙◌}
use borrow.Author.Tests.{not-false}
use Rattle.calls.specs.declared.Question.{Question}
use Rattle.calls.specs.declared.Question.TheVariants as Asks
use Rattle.calls.specs.Calls.{file_model, file_counter, file_delivery, merge, refusal}
use Rattle.calls.specs.Answers.{answer_reply, delivery_reply, question_call}
use Rattle.questions.specs.declared.View.{View}
use Rattle.questions.specs.Questions.{answer_from}
use Rattle.register.specs.declared.Register.{Register}
use Rattle.register.specs.Filing as Filing
use Rattle.register.specs.Merging.{has_delivery, merge_by, merge_delivery}
use Rattle.register.specs.Questions.{has_model, shown_of, lists_of, view_of, upper_in, lower_in, mean_in, margin_in, live_in, within_in}
use Rattle.verdict.specs.Verdict.{verdict}
use Rattle.held.specs.Held.{holds_model, is_held}
use Rattle.filing.specs.Outcomes.{model_outcome, file_of, delivery_outcome, merge_reason, merge_after, merge_outcome}
use Rattle.counter.specs.Filing as Counter
use Rattle.counter.specs.Filing.{counter_outcome}
use Rattle.history.specs.Run.{after_call, reply_of}
use Rattle.history.proofs.Refusals.{refused_keeps}
use Rattle.said.specs.declared.Change.{Change}
use Rattle.said.specs.declared.Change.TheVariants.{Clear, Model, Counter, Delivery, Merge}
use Rattle.said.specs.declared.Said.{Said}
use Rattle.said.specs.declared.Said.TheVariants as Says
use Rattle.replies.specs.Replies.{reply_line}
use Rattle.replies.specs.Clauses.{text_of}
use Rattle.script.specs.Script.{change_call, asked_by, reads_file}
use Rattle.script.specs.Serving.{register_by, reply_by}
use Rattle.script.specs.Clauses.{may_change, answered_from, change_made, changed_by}
use Rattle.outcome.specs.Outcomes.{Outcome}

module _ (r : Register) where
  -- What may change the register: the register after it, and the text.
  made_register : (c : Change) (f : List ℕ) → (change_made r c f).register ≡ after_call r (change_call c f)
  unfolding after_call
  made_register Clear f = refl
  made_register Model f = refl
  made_register Counter f = refl
  made_register Delivery f = refl
  made_register Merge f = refl

  made_text : (c : Change) (f : List ℕ) → text_of (change_made r c f).response ≡ reply_line (reply_of r (change_call c f))
  unfolding reply_of
  made_text Clear f = refl
  made_text Model f = refl
  made_text Counter f = refl
  made_text Delivery f = refl
  made_text Merge f = refl

  pub changed_register : (s : Said) (f : List ℕ) → may_change s ≡ true → (changed_by r s f).register ≡ register_by r (asked_by s f)
  changed_register Says.Nothing f e = absurd (false≢true e)
  changed_register Says.Unclear f e = absurd (false≢true e)
  changed_register (Says.Change c) f e = made_register c f
  changed_register (Says.Question a) f e = absurd (false≢true e)

  pub changed_text : (s : Said) (f : List ℕ) → may_change s ≡ true → text_of (changed_by r s f).response ≡ reply_by r (asked_by s f)
  changed_text Says.Nothing f e = absurd (false≢true e)
  changed_text Says.Unclear f e = absurd (false≢true e)
  changed_text (Says.Change c) f e = made_text c f
  changed_text (Says.Question a) f e = absurd (false≢true e)

  -- What changes nothing, whatever its file: the text from a view of the register and its lists.
  asked_register : (a : Question) → r ≡ after_call r (question_call a)
  unfolding after_call
  asked_register (Asks.Upper p z q) = refl
  asked_register (Asks.Lower p z q) = refl
  asked_register (Asks.MeanSteps p z) = refl
  asked_register Asks.Margin = refl
  asked_register (Asks.Live p z q) = refl
  asked_register (Asks.Within n p z q) = refl

  asked_text : (a : Question)
      → answer_reply (answer_from (shown_of r) r.model.bytes (lists_of r) a) ≡ reply_of r (question_call a)
  unfolding reply_of upper_in lower_in mean_in margin_in live_in within_in
  asked_text (Asks.Upper p z q) = refl
  asked_text (Asks.Lower p z q) = refl
  asked_text (Asks.MeanSteps p z) = refl
  asked_text Asks.Margin = refl
  asked_text (Asks.Live p z q) = refl
  asked_text (Asks.Within n p z q) = refl

  pub kept_register : (s : Said) (f : List ℕ) → may_change s ≡ false → r ≡ register_by r (asked_by s f)
  kept_register Says.Nothing f e = refl
  kept_register Says.Unclear f e = refl
  kept_register (Says.Change c) f e = absurd (false≢true (sym e))
  kept_register (Says.Question a) f e = asked_register a

  kept_shown : (s : Said) (f : List ℕ) → may_change s ≡ false → text_of (answered_from (shown_of r) r.model.bytes (lists_of r) s) ≡ reply_by r (asked_by s f)
  kept_shown Says.Nothing f e = refl
  kept_shown Says.Unclear f e = refl
  kept_shown (Says.Change c) f e = absurd (false≢true (sym e))
  kept_shown (Says.Question a) f e = ap reply_line (asked_text a)

  pub kept_text : {v : View} {l : List (List ℕ)} (s : Said) (f : List ℕ) → v ≡ view_of r → l ≡ lists_of r → may_change s ≡ false
      → text_of (answered_from v.shown v.bytes l s) ≡ reply_by r (asked_by s f)
  kept_text s f seen listed e = rw (seen, listed) (kept_shown s f e)

  -- The register's own reasons: 41 for a model or a counter file where a model is held, 40 for a delivery where none is, whatever the file. Nothing changes then.
  pub model_unread : (f : List ℕ) → has_model r ≡ true → reply_of r (file_model f) ≡ refusal 41
  unfolding reply_of Filing.file_model model_outcome has_model
  model_unread f held = rw held

  pub counter_unread : (f : List ℕ) → has_model r ≡ true → reply_of r (file_counter f) ≡ refusal 41
  unfolding reply_of Counter.file_counter counter_outcome
  counter_unread f held = rw held

  pub delivery_unread : (f : List ℕ) → has_model r ≡ false → reply_of r (file_delivery f) ≡ refusal 40
  unfolding reply_of Filing.file_delivery delivery_outcome has_model
  delivery_unread f held = rw held

  -- And for a merge 40 where no model is held, and else 42 where no delivery is.
  pub merge_unread : (f : List ℕ) → (has_model r && has_delivery r) ≡ false → reply_of r (merge f) ≡ refusal (cond (has_model r) 42 40)
  unfolding reply_of merge_delivery merge_outcome has_model has_delivery
  merge_unread f = go (holds_model r.model.length) (is_held r.delivery) (verdict (file_of r.model) f) (file_of r.model)
    where
      go : (t u : Bool) (o : Outcome) (b : List ℕ) → (t && u) ≡ false →
          let x = merge_by (merge_after (merge_reason t u) o) r b f in
          delivery_reply x.receipt ≡ refusal (cond t 42 40)
      go true true o b e = absurd (false≢true (sym e))
      go true false o b e = refl
      go false u o b e = refl

  model_kept : (f : List ℕ) → has_model r ≡ true → after_call r (file_model f) ≡ r
  model_kept f held = refused_keeps r (file_model f) 41 0 (pos 0) (model_unread f held)

  counter_kept : (f : List ℕ) → has_model r ≡ true → after_call r (file_counter f) ≡ r
  counter_kept f held = refused_keeps r (file_counter f) 41 0 (pos 0) (counter_unread f held)

  delivery_kept : (f : List ℕ) → has_model r ≡ false → after_call r (file_delivery f) ≡ r
  delivery_kept f held = refused_keeps r (file_delivery f) 40 0 (pos 0) (delivery_unread f held)

  merge_kept : (f : List ℕ) → (has_model r && has_delivery r) ≡ false → after_call r (merge f) ≡ r
  merge_kept f held = refused_keeps r (merge f) (cond (has_model r) 42 40) 0 (pos 0) (merge_unread f held)

  -- So what the file holds does not matter where it is not read.
  pub unread_text : (s : Said) (f g : List ℕ) → reads_file (has_model r) (has_delivery r) s ≡ false → reply_by r (asked_by s f) ≡ reply_by r (asked_by s g)
  unread_text Says.Nothing f g e = refl
  unread_text Says.Unclear f g e = refl
  unread_text (Says.Change Clear) f g e = refl
  unread_text (Says.Change Model) f g e = ap reply_line (model_unread f (not-false (has_model r) e) ∙ sym (model_unread g (not-false (has_model r) e)))
  unread_text (Says.Change Counter) f g e = ap reply_line (counter_unread f (not-false (has_model r) e) ∙ sym (counter_unread g (not-false (has_model r) e)))
  unread_text (Says.Change Delivery) f g e = ap reply_line (delivery_unread f e ∙ sym (delivery_unread g e))
  unread_text (Says.Change Merge) f g e = ap reply_line (merge_unread f e ∙ sym (merge_unread g e))
  unread_text (Says.Question a) f g e = refl

  pub unread_register : (s : Said) (f g : List ℕ) → reads_file (has_model r) (has_delivery r) s ≡ false → register_by r (asked_by s f) ≡ register_by r (asked_by s g)
  unfolding after_call
  unread_register Says.Nothing f g e = refl
  unread_register Says.Unclear f g e = refl
  unread_register (Says.Change Clear) f g e = refl
  unread_register (Says.Change Model) f g e = model_kept f (not-false (has_model r) e) ∙ sym (model_kept g (not-false (has_model r) e))
  unread_register (Says.Change Counter) f g e = counter_kept f (not-false (has_model r) e) ∙ sym (counter_kept g (not-false (has_model r) e))
  unread_register (Says.Change Delivery) f g e = delivery_kept f e ∙ sym (delivery_kept g e)
  unread_register (Says.Change Merge) f g e = merge_kept f e ∙ sym (merge_kept g e)
  unread_register (Says.Question a) f g e = refl
