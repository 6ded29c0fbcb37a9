-- `short_chance`: past the tests the bytes are a model, since its index has states, and the chance is that of the entry's row.
use mathlib.Core.Path.{sym, ◌∙◌}
use Rattle.model.proofs.Records.{fits_narrow}
use Rattle.model.proofs.Accepted.{sized_fits}
use Rattle.shortruns.proofs.Laws.{at_row}
use Rattle.held.proofs.Bounds.{entry_exactly}
use Rattle.questions.proofs.ShortChances.{is_model_lem, no_such_entry, too_many_steps, short_is_chance}
use Rattle.questions.proofs.short.short_chance.Goals as goal
use Rattle.questions.proofs.short.short_chance.Goals.{then-not-has_entry-via-then-not-has_entry, then-not-has_entry-via-else-not-has_entry+then-not-few_steps}

pub returns-then-not-has_entry : goal.returns-then-not-has_entry
returns-then-not-has_entry c =
    elim c.then-not-has_entry.branch [
      | then-not-has_entry-via-then-not-has_entry w ↦ no_such_entry c.requires.1 _ _ _ _ (sym c.has_entry.ensures ∙ w.if-not-has_entry.true)
      | then-not-has_entry-via-else-not-has_entry+then-not-few_steps w ↦ too_many_steps c.requires.1 _ _ _ _ (sym w.few_steps.ensures ∙ w.if-not-few_steps.true)
    ]

pub row-requires : goal.row-requires
row-requires c =
    let index = c.requires.1 in
    let ((p, z), q) = (entry_exactly _ _ _ _ _).0 (sym c.has_entry.ensures ∙ c.if-not-has_entry.false) in
    (fits_narrow (sized_fits (index.indexed (is_model_lem index p)).sized), p, z)

pub returns : goal.returns
returns c =
    let there = sym c.has_entry.ensures ∙ c.if-not-has_entry.false in
    let ((p, z), q) = (entry_exactly _ _ _ _ _).0 there in
    c.chance.ensures.0
    ∙ at_row _ _ _ _ _ _ z c.row.ensures.0
    ∙ short_is_chance c.requires.1 _ _ _ _ p there (sym c.few_steps.ensures ∙ c.if-not-few_steps.false)
