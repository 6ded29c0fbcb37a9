-- `check`: the first row that is refused, after every row before it has passed, is refused as the whole block.
use Rattle.std.proofs.Common.{sym, arith}
use Rattle.std.proofs.lemmas.Result.{err_from_is_err_and}
use Rattle.inequalities.proofs.Tests.{rows_refused, entries_in_turn}
use Rattle.inequalities.proofs.means.check.Goals as goal

pub returns-in_err-check_mean : goal.returns-in_err-check_mean
returns-in_err-check_mean c =
    let p = err_from_is_err_and c.from_residual.result c.from_residual.ensures.1 in
    rw (p.1, p.2) (sym (rows_refused _ _ _ (omega arith) _ c.loop-k.invariant (grind (arith, entries_in_turn))))
