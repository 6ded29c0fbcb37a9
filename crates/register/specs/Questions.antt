-- The questions, answered by a register (document 01, "Filing and questions" and "Reasons found in the register"; request A.1).
use Rattle.std.specs.Prelude.{ℕ, Bool, List, [], ◌∷◌}
use Rattle.calls.specs.Answers.{Answer}
use Rattle.register.specs.declared.Register.{Register}
use Rattle.held.specs.Held.{holds_model}
use Rattle.questions.specs.declared.Shown.{Shown}
use Rattle.questions.specs.declared.View.{View}
use Rattle.questions.specs.Questions.{upper_answer, lower_answer, mean_answer, margin_answer, live_answer, within_answer}

-- Whether a model is held: where one is, filing a model is refused by 41, and where none is, all else is by 40.
unfoldable pub has_model : Register → Bool
has_model r = holds_model r.model.length

-- What is held but for the lists of numbers.
abbrev pub shown_of : Register → Shown
shown_of r = record {
  length = r.model.length;
  states = r.model.states;
  symbols = r.model.symbols;
  delivery = r.delivery;
  margin = r.numbers.margin;
}

-- The lists of numbers: live marks and mean steps in the order of files, uppers and lowers by exit (request A.6).
abbrev pub lists_of : Register → List (List ℕ)
lists_of r = r.model.live ∷ r.numbers.uppers ∷ r.numbers.lowers ∷ r.numbers.means ∷ []

-- What questions are answered from, beside these.
abbrev pub view_of : Register → View
view_of r = record { shown = shown_of r; bytes = r.model.bytes }

-- An entry's upper, its lower, a row's mean steps, the margin, an entry's live mark, and its chance within n steps.
unfoldable pub upper_in : Register → ℕ → ℕ → ℕ → Answer
upper_in r p z q = upper_answer (shown_of r) r.numbers.uppers p z q

unfoldable pub lower_in : Register → ℕ → ℕ → ℕ → Answer
lower_in r p z q = lower_answer (shown_of r) r.numbers.lowers p z q

unfoldable pub mean_in : Register → ℕ → ℕ → Answer
mean_in r p z = mean_answer (shown_of r) r.numbers.means p z

unfoldable pub margin_in : Register → Answer
margin_in r = margin_answer (shown_of r)

unfoldable pub live_in : Register → ℕ → ℕ → ℕ → Answer
live_in r p z q = live_answer (shown_of r) r.model.live p z q

unfoldable pub within_in : Register → ℕ → ℕ → ℕ → ℕ → Answer
within_in r n p z q = within_answer (shown_of r) r.model.bytes n p z q
