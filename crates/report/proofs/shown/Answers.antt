-- `shown`: the model's sizes and u − f(u) are those of the files.
use mathlib.Core.Path.{subst}
use Rattle.model.proofs.Accepted.{sized_fits}
use Rattle.certificate.proofs.Steps.{sized_by_verdict}
use Rattle.report.specs.Clauses.{HoldsText}
use Rattle.report.proofs.Asked.{lines_said}
use Rattle.report.proofs.shown.Goals as goal

pub shown_with-requires : goal.shown_with-requires
shown_with-requires c = let sizes = c in
    sized_fits (sized_by_verdict _ sizes.requires sizes.sizes_of-n.ensures.0)

pub returns : goal.returns
returns c = let records = c in
    let sizes = records in
    let gaps = sizes in
    let start = gaps in
    let is = sizes.sizes_of-n.ensures.0 in
    let fits = sized_fits (sized_by_verdict _ start.requires is) in
    subst (HoldsText _) (lines_said start.args.register _ _ gaps.gaps_of-gaps.result is fits records.records.ensures gaps.gaps_of-gaps.ensures)
    c.shown_with.ensures
