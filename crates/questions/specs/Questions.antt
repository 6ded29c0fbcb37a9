-- The questions, answered from what is held (document 01, "Filing and questions" and "Reasons found in the register"; request A.1).
use Rattle.std.specs.Prelude.{ℕ, true, cond, ◌&&◌, List, [], take, get_or}
use Rattle.outcome.specs.declared.Reason.TheVariants.{TooManySteps}
use Rattle.ppda.specs.Chances.{chance}
use Rattle.model.specs.Records.{states_of, symbols_of}
use Rattle.model.specs.Rules.{rules_of}
use Rattle.wellformed.specs.Verdict.{model_verdict}
use Rattle.calls.specs.declared.Question.{Question}
use Rattle.calls.specs.declared.Question.TheVariants as Asks
use Rattle.calls.specs.Answers.{Answer}
use Rattle.calls.specs.Answers.{answered_or, answered}
use Rattle.held.specs.Held.{holds_model, is_held, lowers_stand, means_stand}
use Rattle.held.specs.Places.{has_row, has_entry, row_value, entry_value, exit_value}
use Rattle.shortruns.specs.Short.{few_steps}
use Rattle.questions.specs.declared.Shown.{Shown}
use Rattle.outcome.specs.Outcomes.{is_refused}

-- An entry's upper, its lower, a row's mean steps, the margin, and an entry's live mark, which needs a model only; the numbers by the list l, of uppers and lowers
-- by exit (request A.6), of mean steps and marks in file order.
abbrev pub upper_answer : Shown → List ℕ → ℕ → ℕ → ℕ → Answer
upper_answer h l p z q =
    answered (holds_model h.length) (is_held h.delivery) (has_entry h.states h.symbols p z q) true
    (exit_value h.states h.symbols l p z q)

abbrev pub lower_answer : Shown → List ℕ → ℕ → ℕ → ℕ → Answer
lower_answer h l p z q =
    answered (holds_model h.length) (is_held h.delivery) (has_entry h.states h.symbols p z q) (lowers_stand h.delivery)
    (exit_value h.states h.symbols l p z q)

abbrev pub mean_answer : Shown → List ℕ → ℕ → ℕ → Answer
mean_answer h l p z =
    answered (holds_model h.length) (is_held h.delivery) (has_row h.states h.symbols p z) (means_stand h.delivery)
    (row_value h.states h.symbols l p z)

abbrev pub margin_answer : Shown → Answer
margin_answer h = answered (holds_model h.length) (is_held h.delivery) true (lowers_stand h.delivery) h.margin

abbrev pub live_answer : Shown → List ℕ → ℕ → ℕ → ℕ → Answer
live_answer h l p z q =
    answered (holds_model h.length) true (has_entry h.states h.symbols p z q) true (entry_value h.states h.symbols l p z q)

-- The chance of the entry (p, z, q) of the model b within n steps, over 65,536 ^ n. For bytes that are no model, for an entry that they have not, and for more steps than may be
-- asked for it is 0; after any list of calls, no register answers from one of these three cases.
unfoldable pub short_chance : List ℕ → ℕ → ℕ → ℕ → ℕ → ℕ
short_chance b n p z q =
    cond (is_refused (model_verdict b)) 0
    (cond (has_entry (states_of b) (symbols_of b) p z q && few_steps n) (chance (rules_of b) n p z q) 0)

-- The chance of an entry within n steps, which needs a model only; by the bytes b, which begin with the model's file (request A.1).
abbrev pub within_answer : Shown → List ℕ → ℕ → ℕ → ℕ → ℕ → Answer
within_answer h b n p z q =
    answered_or (holds_model h.length) true (has_entry h.states h.symbols p z q) (few_steps n) TooManySteps
    (short_chance (take h.length b) n p z q)

-- The lists of numbers, by their places: live marks and mean steps in the order of files, uppers and lowers by exit (request A.6).
abbrev pub marks_at : ℕ
marks_at = 0

abbrev pub uppers_at : ℕ
uppers_at = 1

abbrev pub lowers_at : ℕ
lowers_at = 2

abbrev pub means_at : ℕ
means_at = 3

-- Any question, from the model's bytes b and the lists of numbers l.
abbrev pub answer_from : Shown → List ℕ → List (List ℕ) → Question → Answer
answer_from h b l (Asks.Upper p z q) = upper_answer h (get_or l uppers_at []) p z q
answer_from h b l (Asks.Lower p z q) = lower_answer h (get_or l lowers_at []) p z q
answer_from h b l (Asks.MeanSteps p z) = mean_answer h (get_or l means_at []) p z
answer_from h b l Asks.Margin = margin_answer h
answer_from h b l (Asks.Live p z q) = live_answer h (get_or l marks_at []) p z q
answer_from h b l (Asks.Within n p z q) = within_answer h b n p z q
