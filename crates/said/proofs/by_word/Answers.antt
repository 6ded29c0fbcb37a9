-- `by_word`: the call is that of the first word that the word is, and none where it is none of them.
use Rattle.std.proofs.Common.{rules, sym, ◌∙◌}
use Rattle.calls.specs.declared.Question.TheVariants.{Upper, Lower, Live}
use Rattle.said.proofs.Calls.{says_clear, says_model, says_counter, says_delivery, says_merge, says_upper, says_lower, says_steps, says_margin, says_live_lem, says_within, says_none}
use Rattle.said.proofs.by_word.Goals as goal

pub returns-then-is_word : goal.returns-then-is_word
returns-then-is_word c = c.alone.ensures ∙ sym (says_clear _ _ (sym c.is_word.ensures ∙ c.if-is_word.true))

pub returns-then-is_word-2 : goal.returns-then-is_word-2
returns-then-is_word-2 c = c.on_file.ensures ∙ sym (says_model _ _ (sym c.is_word-else-is_word.ensures ∙ c.if-is_word-2.true))

pub returns-then-is_word-3 : goal.returns-then-is_word-3
returns-then-is_word-3 c = c.on_file-then-is_word-3.ensures ∙ sym (says_counter _ _ (sym c.is_word-else-is_word-2.ensures ∙ c.if-is_word-3.true))

pub returns-then-is_word-4 : goal.returns-then-is_word-4
returns-then-is_word-4 c = c.on_file-then-is_word-4.ensures ∙ sym (says_delivery _ _ (sym c.is_word-else-is_word-3.ensures ∙ c.if-is_word-4.true))

pub returns-then-is_word-5 : goal.returns-then-is_word-5
returns-then-is_word-5 c = c.on_file-then-is_word-5.ensures ∙ sym (says_merge _ _ (sym c.is_word-else-is_word-4.ensures ∙ c.if-is_word-5.true))

pub returns-then-is_word-6 : goal.returns-then-is_word-6
returns-then-is_word-6 c =
    c.on_entry.ensures Upper (λ p z q a h. search rules) ∙ sym (says_upper _ _ (sym c.is_word-else-is_word-5.ensures ∙ c.if-is_word-6.true))

pub returns-then-is_word-7 : goal.returns-then-is_word-7
returns-then-is_word-7 c =
    c.on_entry-then-is_word-7.ensures Lower (λ p z q a h. search rules) ∙ sym (says_lower _ _ (sym c.is_word-else-is_word-6.ensures ∙ c.if-is_word-7.true))

pub returns-then-is_word-8 : goal.returns-then-is_word-8
returns-then-is_word-8 c = c.steps.ensures ∙ sym (says_steps _ _ (sym c.is_word-else-is_word-7.ensures ∙ c.if-is_word-8.true))

pub returns-then-is_word-9 : goal.returns-then-is_word-9
returns-then-is_word-9 c = c.alone-then-is_word-9.ensures ∙ sym (says_margin _ _ (sym c.is_word-else-is_word-8.ensures ∙ c.if-is_word-9.true))

pub returns-then-is_word-10 : goal.returns-then-is_word-10
returns-then-is_word-10 c =
    c.on_entry-then-is_word-10.ensures Live (λ p z q a h. search rules) ∙ sym (says_live_lem _ _ (sym c.is_word-else-is_word-9.ensures ∙ c.if-is_word-10.true))

pub returns-then-is_word-11 : goal.returns-then-is_word-11
returns-then-is_word-11 c = c.within.ensures ∙ sym (says_within _ _ (sym c.is_word-else-is_word-10.ensures ∙ c.if-is_word-11.true))

pub returns-else-is_word-11 : goal.returns-else-is_word-11
returns-else-is_word-11 c = sym
    (says_none _ _
    (sym c.is_word.ensures ∙ c.if-is_word.false)
    (sym c.is_word-else-is_word.ensures ∙ c.if-is_word-2.false)
    (sym c.is_word-else-is_word-2.ensures ∙ c.if-is_word-3.false)
    (sym c.is_word-else-is_word-3.ensures ∙ c.if-is_word-4.false)
    (sym c.is_word-else-is_word-4.ensures ∙ c.if-is_word-5.false)
    (sym c.is_word-else-is_word-5.ensures ∙ c.if-is_word-6.false)
    (sym c.is_word-else-is_word-6.ensures ∙ c.if-is_word-7.false)
    (sym c.is_word-else-is_word-7.ensures ∙ c.if-is_word-8.false)
    (sym c.is_word-else-is_word-8.ensures ∙ c.if-is_word-9.false)
    (sym c.is_word-else-is_word-9.ensures ∙ c.if-is_word-10.false)
    (sym c.is_word-else-is_word-10.ensures ∙ c.if-is_word-11.false))
