-- `said_by`: a line that gets a reply and is plain says what its first word and the rest of it say.
use mathlib.Core.Path.{sym, ◌∙◌}
use Rattle.said.proofs.Calls.{line_found, silent_says, odd_says}
use Rattle.said.proofs.said_by.Goals as goal

pub returns-then-is_silent : goal.returns-then-is_silent
returns-then-is_silent c = sym (silent_says _ (sym c.is_silent.ensures ∙ c.if-is_silent.true))

pub returns-then-not-is_plain : goal.returns-then-not-is_plain
returns-then-not-is_plain c = sym (odd_says _ (sym c.is_silent.ensures ∙ c.if-is_silent.false) (sym c.is_plain.ensures ∙ c.if-not-is_plain.true))

pub returns : goal.returns
returns c = line_found _ _
    (sym c.is_silent.ensures ∙ c.if-is_silent.false) (sym c.is_plain.ensures ∙ c.if-not-is_plain.false)
    c.word_end-end.ensures.0 c.by_word.ensures
