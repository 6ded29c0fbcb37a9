-- `check_shaped`: the layout is tested first, then the numbers, and the first part that refuses decides.
use mathlib.Core.Path.{refl, sym, ◌∙◌}
use Rattle.std.proofs.lemmas.Result.{err_from_is_err_and}
use Rattle.outcome.proofs.Tests.{first_refused, first_rest}
use Rattle.verdict.specs.Verdict.{shaped_tests}
use Rattle.model.proofs.Accepted.{sized_fits}
use Rattle.certificate.proofs.beside.check_shaped.Goals as goal

pub check-requires : goal.check-requires
check-requires c = let pre = c.requires in record { fits = sized_fits pre.sized; of = pre.of }

pub returns-in_err-check : goal.returns-in_err-check
unfolding shaped_tests
returns-in_err-check c =
    let p = err_from_is_err_and c.from_residual.result c.from_residual.ensures.1 in
    rw (p.1, p.2) (first_refused _ _ _ (sym c.in_err-check.was ∙ c.check.ensures) refl)

pub returns : goal.returns
unfolding shaped_tests
returns c = first_rest _ _ _ _ c.check.ensures c.in_ok-check.was c.check-2.ensures
