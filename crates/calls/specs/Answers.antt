-- What the calls' code answers, and the reply that this is in document 01's numbers (document 01, "Reasons found in the register").
use Rattle.std.specs.Prelude.{ℕ, Bool, true, false, pos, Result, Ok, Err}
use Rattle.outcome.specs.declared.Reason.{Reason}
use Rattle.outcome.specs.declared.Reason.TheVariants.{NoModel, NoDelivery, NotOfModel, NoBlock}
use Rattle.outcome.specs.declared.Refusal.{Refusal}
use Rattle.outcome.specs.Outcomes.{Outcome, Refused}
use Rattle.outcome.specs.Reasons.{number_of}
use Rattle.calls.specs.declared.Mark.{Mark}
use Rattle.calls.specs.declared.Mark.TheVariants as Marks
use Rattle.calls.specs.declared.Question.{Question}
use Rattle.calls.specs.declared.Question.TheVariants as Questions
use Rattle.calls.specs.Calls.{Call, upper, lower, mean_steps, margin, live, within, Reply, accepted, known, new, value, refused}

-- The answer to a question: a number, or a refusal.
abbrev pub Answer : Type 0
Answer = Result ℕ Refusal

-- What filing a delivery, or merging it, answers: its mark, or a refusal.
abbrev pub Receipt : Type 0
Receipt = Result Mark Refusal

-- The call that a question of the code is.
abbrev pub question_call : Question → Call
question_call (Questions.Upper p z q) = upper p z q
question_call (Questions.Lower p z q) = lower p z q
question_call (Questions.MeanSteps p z) = mean_steps p z
question_call Questions.Margin = margin
question_call (Questions.Live p z q) = live p z q
question_call (Questions.Within n p z q) = within n p z q

-- The first reason that applies, or the number: whether a model is held (40), a delivery (42), the states and symbols are the held model's
-- (44), and the question's own last test, with its reason.
abbrev pub answered_or : Bool → Bool → Bool → Bool → Reason → ℕ → Answer
answered_or false d i k x v = Refused NoModel 0 (pos 0)
answered_or true false i k x v = Refused NoDelivery 0 (pos 0)
answered_or true true false k x v = Refused NotOfModel 0 (pos 0)
answered_or true true true false x v = Refused x 0 (pos 0)
answered_or true true true true x v = Ok v

-- The same where the last test is whether the block stands (43).
abbrev pub answered : Bool → Bool → Bool → Bool → ℕ → Answer
answered m d i k v = answered_or m d i k NoBlock v

-- A refusal in document 01's numbers.
abbrev pub refusal_reply : Refusal → Reply
refusal_reply why = refused (number_of why.reason) why.place why.shortfall

-- The number and the values of document 01 for each case of the answers of code.
abbrev pub model_reply : Outcome → Reply
model_reply (Ok u) = accepted
model_reply (Err why) = refusal_reply why

abbrev pub mark_reply : Mark → Reply
mark_reply Marks.Known = known
mark_reply Marks.New = new

abbrev pub delivery_reply : Receipt → Reply
delivery_reply (Ok m) = mark_reply m
delivery_reply (Err why) = refusal_reply why

abbrev pub answer_reply : Answer → Reply
answer_reply (Ok n) = value n
answer_reply (Err why) = refusal_reply why
