-- `shape`: a refused model gives no shape, and an accepted one that of the delivery.
use mathlib.Core.Path.{◌≡◌, sym, ◌∙◌}
use Rattle.wellformed.specs.Verdict.{model_verdict}
use Rattle.model.proofs.Accepted.{sized_fits}
use Rattle.wellformed.proofs.Accepted.{sized_by}
use Rattle.certificate.proofs.Steps.{refused_none, accepted_some, shape_of_refused, shape_of_accepted}
use Rattle.certificate.proofs.shape.Goals as goal
use Rattle.outcome.specs.Outcomes.{Accepted}

pub returns-in_err-ok : goal.returns-in_err-ok
returns-in_err-ok c =
    let (why, refused) = refused_none c.check.result c.in_err-ok.ensures.value in
    rw c.from_residual.ensures (shape_of_refused _ _ (sym c.check.ensures ∙ refused))

pub shape_of-requires : goal.shape_of-requires
shape_of-requires c =
    let accepted : model_verdict c.args.model.now ≡ Accepted = sym c.check.ensures ∙ accepted_some c.check.result c.in_ok-ok.ensures.value in
    sized_fits (sized_by accepted c.sizes_of.ensures.0)

pub returns : goal.returns
returns c =
    let accepted : model_verdict c.args.model.now ≡ Accepted = sym c.check.ensures ∙ accepted_some c.check.result c.in_ok-ok.ensures.value in
    shape_of_accepted _ _ accepted c.sizes_of.ensures.0 c.shape_of.ensures
