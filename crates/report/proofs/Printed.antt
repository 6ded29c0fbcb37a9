-- What is printed of two files, by their filings in a cleared register: a refusal, or the lines of what the register then holds, whose
-- delivery is accepted.
use Prim.Native.Nat.{ℕ}
use mathlib.Core.Bool.{true}
use mathlib.Core.List.{List, [], ◌∷◌}
use mathlib.Core.Path.{◌≡◌, refl, sym, ap, ◌∙◌}
use Rattle.verdict.specs.Verdict.{verdict}
use Rattle.calls.specs.declared.Mark.{Mark}
use Rattle.calls.specs.declared.Mark.TheVariants.{Known, New}
use Rattle.register.specs.declared.Register.{Register}
use Rattle.register.specs.declared.Filed.{Filed}
use Rattle.register.specs.declared.Received.{Received}
use Rattle.register.specs.Filing.{cleared, file_model, file_delivery}
use Rattle.calls.specs.Calls as calls
use Rattle.history.specs.Plain.{last_model, last_delivery}
use Rattle.calls.specs.Answers.{model_reply, mark_reply, delivery_reply}
use Rattle.history.specs.Run.{after_call, reply_of, register_after, reply_to, history}
use Rattle.history.proofs.Plain.{right_pair}
use Rattle.report.specs.Clauses.{HoldsModel, line_of}
use Rattle.report.specs.Printed.{unless_refused, accepted_lines, printed}
use Rattle.outcome.specs.Outcomes.{Accepted}
use Rattle.std.specs.Prelude.{Err, Ok}
use Rattle.outcome.specs.declared.Refusal.{Refusal}

-- An accepted delivery is taken, whatever its mark.
more_of : (m : Mark) (more : List ℕ) → more ≡ unless_refused (mark_reply m) more
more_of Known more = refl
more_of New more = refl

taken_of : (m : Mark) → calls.taken (mark_reply m) ≡ true
taken_of Known = refl
taken_of New = refl

-- ---- the model

module _ {e : Register} (b : List ℕ) {filed : Filed} (none : e ≡ cleared) (is : filed ≡ file_model e b) where
  replied : reply_to [] (calls.file_model b) ≡ model_reply filed.outcome
  unfolding reply_of register_after
  replied = rw (is, none)

  pub model_refused : (d : List ℕ) (why : Refusal) → filed.outcome ≡ Err why → line_of why ≡ printed b d
  unfolding printed
  model_refused d why refused = rw (replied, refused)

  pub model_held_lem : filed.outcome ≡ Accepted → HoldsModel filed.register b
  model_held_lem passed = record { holding = rw (is, none); accepted = rw (is, none) at passed }

-- ---- the delivery

module _ {r : Register} (b d : List ℕ) {received : Received} (held : HoldsModel r b) (is : received ≡ file_delivery r d) where
  model_reply_lem : reply_to [] (calls.file_model b) ≡ calls.accepted
  unfolding reply_of register_after
  model_reply_lem = rw held.accepted

  delivery_reply_lem : reply_to (calls.file_model b ∷ []) (calls.file_delivery d) ≡ delivery_reply received.receipt
  unfolding reply_of register_after after_call
  delivery_reply_lem = rw (is, held.holding)

  pub delivery_refused : (why : Refusal) → received.receipt ≡ Err why → line_of why ≡ printed b d
  unfolding printed
  delivery_refused why refused = rw (model_reply_lem, delivery_reply_lem, refused)

  module _ (mark : Mark) (taken : received.receipt ≡ Ok mark) where
    kept : register_after (calls.file_delivery d ∷ calls.file_model b ∷ []) ≡ received.register
    unfolding register_after after_call
    kept = rw (is, held.holding)

    pub lines_of_held : accepted_lines (reply_of received.register) b d ≡ printed b d
    unfolding printed
    lines_of_held =
        ap (λ r. accepted_lines (reply_of r) b d) (sym kept)
        ∙ rw (model_reply_lem, delivery_reply_lem, taken) (more_of mark _)

    pub held_accepted : verdict b d ≡ Accepted
    unfolding history last_model last_delivery
    held_accepted =
        rw (model_reply_lem, delivery_reply_lem, taken, taken_of mark) at
        (right_pair (calls.file_delivery d ∷ calls.file_model b ∷ []))
