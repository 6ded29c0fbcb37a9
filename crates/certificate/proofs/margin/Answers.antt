-- `margin`: it is shown where the delivery is accepted and its shape has lowers, and nowhere else.
use mathlib.Core.Path.{◌≡◌, sym, ◌∙◌}
use Rattle.model.specs.Clauses.{Sized}
use Rattle.model.proofs.Accepted.{sized_fits}
use Rattle.verdict.specs.Verdict.{verdict}
use Rattle.certificate.proofs.Steps.{refused_none, accepted_some, sized_by_verdict, none_if_refused, none_if_unknown, none_without_lowers, shown_with_lowers}
use Rattle.certificate.proofs.margin.Goals as goal
use Rattle.outcome.specs.Outcomes.{Accepted}

pub returns-in_err-ok : goal.returns-in_err-ok
returns-in_err-ok c =
    let (why, refused) = refused_none c.check.result c.in_err-ok.ensures.value in
    rw c.from_residual.ensures (none_if_refused _ _ (sym c.check.ensures ∙ refused))

pub shape_of-requires : goal.shape_of-requires
shape_of-requires c =
    let accepted : verdict c.args.model.now c.args.delivery.now ≡ Accepted = sym c.check.ensures ∙ accepted_some c.check.result c.in_ok-ok.ensures.value in
    sized_fits (sized_by_verdict _ accepted c.sizes_of-n.ensures.0)

pub returns-in_err-shape : goal.returns-in_err-shape
returns-in_err-shape c =
    let accepted : verdict c.args.model.now c.args.delivery.now ≡ Accepted = sym c.check.ensures ∙ accepted_some c.check.result c.in_ok-ok.ensures.value in
    rw c.from_residual-in_err-shape.ensures (none_if_unknown _ _ accepted c.sizes_of-n.ensures.0 (sym c.shape_of.ensures ∙ c.in_err-shape.was))

pub returns-then-not-has_lowers : goal.returns-then-not-has_lowers
returns-then-not-has_lowers c =
    let accepted : verdict c.args.model.now c.args.delivery.now ≡ Accepted = sym c.check.ensures ∙ accepted_some c.check.result c.in_ok-ok.ensures.value in
    none_without_lowers _ _ accepted c.sizes_of-n.ensures.0 (sym c.shape_of.ensures ∙ c.in_ok-shape.was) (sym c.has_lowers.ensures ∙ c.if-not-has_lowers.true)

pub margin_with_lowers-requires : goal.margin_with_lowers-requires
margin_with_lowers-requires c =
    let accepted : verdict c.args.model.now c.args.delivery.now ≡ Accepted = sym c.check.ensures ∙ accepted_some c.check.result c.in_ok-ok.ensures.value in
    let sized : Sized c.args.model.now c.sizes_of-n.result.states c.sizes_of-n.result.symbols = sized_by_verdict _ accepted c.sizes_of-n.ensures.0 in (
      record { file = record { sized = sized; of = sym c.shape_of.ensures ∙ c.in_ok-shape.was }; accepted = accepted },
      sym c.has_lowers.ensures ∙ c.if-not-has_lowers.false,
    )

pub returns : goal.returns
returns c =
    let accepted : verdict c.args.model.now c.args.delivery.now ≡ Accepted = sym c.check.ensures ∙ accepted_some c.check.result c.in_ok-ok.ensures.value in
    shown_with_lowers _ _ accepted c.sizes_of-n.ensures.0 (sym c.shape_of.ensures ∙ c.in_ok-shape.was)
    (sym c.has_lowers.ensures ∙ c.if-not-has_lowers.false) c.margin_with_lowers.ensures
