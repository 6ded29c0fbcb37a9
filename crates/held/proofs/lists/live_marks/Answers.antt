-- `live_marks`: zeros for a refused model, and the marks by rounds for an accepted one.
use mathlib.Core.Path.{refl, sym, ap, ◌∙◌}
use Rattle.outcome.proofs.Tests.{not_refused}
use Rattle.outcome.specs.Outcomes.{is_refused}
use Rattle.model.specs.Format.{most_entries}
use Rattle.model.proofs.Accepted.{sized_fits}
use Rattle.wellformed.proofs.Accepted.{sized_by}
use Rattle.held.proofs.Listed.{none_live, live_of}
use Rattle.held.proofs.lists.live_marks.Goals as goal

pub returns-then-is_err : goal.returns-then-is_err
returns-then-is_err c = none_live _ most_entries (sym (ap is_refused c.check.ensures) ∙ sym c.is_err.ensures.value ∙ c.if-is_err.true) refl

pub find_starts-requires : goal.find_starts-requires
find_starts-requires c =
    let accepted = sym c.check.ensures ∙ not_refused _ (sym c.is_err.ensures.value ∙ c.if-is_err.false) in
    (sized_by accepted c.sizes_of-n.ensures.0, refl)

pub by_entries-requires : goal.by_entries-requires
by_entries-requires c =
    let accepted = sym c.check.ensures ∙ not_refused _ (sym c.is_err.ensures.value ∙ c.if-is_err.false) in
    sized_fits (sized_by accepted c.sizes_of-n.ensures.0)

pub returns : goal.returns
returns c =
    let accepted = sym c.check.ensures ∙ not_refused _ (sym c.is_err.ensures.value ∙ c.if-is_err.false) in
    live_of (sized_by accepted c.sizes_of-n.ensures.0) c.find_marks.ensures c.by_entries.ensures
