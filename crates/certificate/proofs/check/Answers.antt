-- `check`: the model is tested first, then the delivery beside it.
use mathlib.Core.Path.{refl, sym, ◌∙◌}
use Rattle.std.proofs.lemmas.Result.{err_from_is_err_and}
use Rattle.certificate.proofs.Steps.{model_decides}
use Rattle.certificate.proofs.check.Goals as goal

pub returns-in_err-check : goal.returns-in_err-check
returns-in_err-check c =
    let p = err_from_is_err_and c.from_residual.result c.from_residual.ensures.1 in
    rw (p.1, p.2) (model_decides _ _ _ (sym c.in_err-check.was ∙ c.check.ensures) refl)
