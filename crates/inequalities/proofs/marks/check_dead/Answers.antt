-- `check_dead`: the first row that is refused, after every row before it has passed, is refused as the whole block.
use Rattle.std.proofs.Common.{sym, ◌∙◌, arith}
use Rattle.std.proofs.lemmas.Result.{err_from_is_err_and}
use Rattle.inequalities.proofs.Tests.{entries_refused}
use Rattle.inequalities.proofs.marks.check_dead.Goals as goal

pub returns-in_err-check_dead_row : goal.returns-in_err-check_dead_row
returns-in_err-check_dead_row c =
    let p = err_from_is_err_and c.from_residual.result c.from_residual.ensures.1 in
    rw (p.1, p.2) (sym (entries_refused _ _ _ (omega arith) _ c.loop-k.invariant (sym c.check_dead_row.ensures ∙ c.in_err-check_dead_row.was)))
