-- `check_lowers`: the lowers are the first V records of the rest. 25 is tested first, then 26, and where no lowers stand nothing is tested.
use mathlib.Core.Bool.{true}
use mathlib.Core.Path.{◌≡◌, refl, sym, ◌∙◌}
use Rattle.std.proofs.lemmas.Result.{err_from_is_err_and}
use Rattle.outcome.proofs.Tests.{first_empty}
use Rattle.delivery.specs.Shapes.{has_lowers}
use Rattle.certificate.proofs.Steps.{below_refused, lower_found}
use Rattle.certificate.proofs.numbers.Checked.check_lowers.Goals as goal

pub returns-then-not-has_lowers : goal.returns-then-not-has_lowers
returns-then-not-has_lowers c = rw (sym c.has_lowers.ensures ∙ c.if-not-has_lowers.true) (sym first_empty)

pub returns-in_err-check_below : goal.returns-in_err-check_below
returns-in_err-check_below c =
    let self = c.args.self.now in
    let stand : has_lowers self.shape ≡ true = sym c.has_lowers.ensures ∙ c.if-not-has_lowers.false in
    let p = err_from_is_err_and c.from_residual.result c.from_residual.ensures.1 in
    rw (p.1, p.2)
    (below_refused _ _ _ c.entries-v.ensures.0 _ stand _ self.uppers.now _ (sym c.in_err-check_below.was ∙ c.check_below.ensures) refl)

pub returns : goal.returns
returns c =
    let self = c.args.self.now in
    let stand : has_lowers self.shape ≡ true = sym c.has_lowers.ensures ∙ c.if-not-has_lowers.false in
    lower_found _ _ _ c.entries-v.ensures.0 _ stand self.right.indexed.sized self.live.now self.uppers.now _ _
    c.check_below.ensures c.in_ok-check_below.was c.check.ensures
