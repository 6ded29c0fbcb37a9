-- `check_rest`: dead lowers are tested first, then 24, then 25 and 26, then 27, and the first part that refuses decides.
use mathlib.Core.Path.{refl, sym, ◌∙◌}
use Rattle.std.proofs.lemmas.Result.{err_from_is_err_and}
use Rattle.certificate.proofs.Steps.{dead_decides, uppers_decide, lowers_decide, means_decide}
use Rattle.certificate.proofs.numbers.Checked.check_rest.Goals as goal

pub returns-in_err-check_dead_lowers : goal.returns-in_err-check_dead_lowers
returns-in_err-check_dead_lowers c =
    let self = c.args.self.now in
    let p = err_from_is_err_and c.from_residual.result c.from_residual.ensures.1 in
    rw (p.1, p.2)
    (dead_decides _ _ _ _ self.live.now self.uppers.now _ _ (sym c.in_err-check_dead_lowers.was ∙ c.check_dead_lowers.ensures) refl)

pub returns-in_err-check_uppers : goal.returns-in_err-check_uppers
returns-in_err-check_uppers c =
    let self = c.args.self.now in
    let exit = c.from_residual-in_err-check_uppers in
    let p = err_from_is_err_and exit.result exit.ensures.1 in
    rw (p.1, p.2)
    (uppers_decide _ _ _ _ self.live.now self.uppers.now _ c.check_dead_lowers.ensures c.in_ok-check_dead_lowers.was
    _ (sym c.in_err-check_uppers.was ∙ c.check_uppers.ensures) refl)

pub returns-in_err-check_lowers : goal.returns-in_err-check_lowers
returns-in_err-check_lowers c =
    let self = c.args.self.now in
    let exit = c.from_residual-in_err-check_lowers in
    let p = err_from_is_err_and exit.result exit.ensures.1 in
    rw (p.1, p.2)
    (lowers_decide _ _ _ _ self.live.now self.uppers.now _ c.check_dead_lowers.ensures c.in_ok-check_dead_lowers.was
    c.check_uppers.ensures c.in_ok-check_uppers.was
    _ (sym c.in_err-check_lowers.was ∙ c.check_lowers.ensures) refl)

pub returns : goal.returns
returns c =
    let self = c.args.self.now in
    means_decide _ _ _ _ self.live.now self.uppers.now _ c.check_dead_lowers.ensures c.in_ok-check_dead_lowers.was
    c.check_uppers.ensures c.in_ok-check_uppers.was
    _ _ c.check_lowers.ensures c.in_ok-check_lowers.was c.check_means.ensures
