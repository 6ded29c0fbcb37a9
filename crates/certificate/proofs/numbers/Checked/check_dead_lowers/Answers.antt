-- `check_dead_lowers`: the lowers are the first V records of the rest, and where none stand nothing is tested.
use mathlib.Core.Bool.{true}
use mathlib.Core.Path.{◌≡◌, sym, ◌∙◌}
use Rattle.outcome.proofs.Tests.{first_empty}
use Rattle.model.proofs.Accepted.{sized_fits}
use Rattle.delivery.specs.Shapes.{has_lowers}
use Rattle.certificate.proofs.Steps.{lowers_in_range, dead_found}
use Rattle.certificate.proofs.numbers.Checked.check_dead_lowers.Goals as goal

pub returns-then-not-has_lowers : goal.returns-then-not-has_lowers
returns-then-not-has_lowers c = rw (sym c.has_lowers.ensures ∙ c.if-not-has_lowers.true) (sym first_empty)

pub check_dead-requires-clause-sizes : goal.check_dead-requires-clause-sizes
check_dead-requires-clause-sizes c =
    let self = c.args.self.now in
    let stand : has_lowers self.shape ≡ true = sym c.has_lowers.ensures ∙ c.if-not-has_lowers.false in
    (sized_fits self.right.indexed.sized, (lowers_in_range _ _ _ (self.right.read.lowers stand) c.entries-v.ensures.0).whole)

pub returns : goal.returns
returns c =
    let self = c.args.self.now in
    let stand : has_lowers self.shape ≡ true = sym c.has_lowers.ensures ∙ c.if-not-has_lowers.false in
    dead_found _ _ _ c.entries-v.ensures.0 _ stand self.live.now _ c.check_dead.ensures
