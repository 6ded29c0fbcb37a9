-- `find_in`: no states where the bytes are refused, and else the model's sizes and the starts that are found.
use mathlib.Core.Path.{sym, ◌∙◌}
use Rattle.outcome.proofs.Tests.{not_refused}
use Rattle.wellformed.proofs.Accepted.{sized_by}
use Rattle.questions.proofs.index.find_in.Goals as goal

pub find_starts-requires : goal.find_starts-requires
find_starts-requires c =
    let accepted = not_refused _ (sym c.is_err.ensures.value ∙ c.if-is_err.false) in
    (sized_by (sym c.check.ensures ∙ accepted) c.sizes_of-sizes.ensures.0, c.requires.1)
