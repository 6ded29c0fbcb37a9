-- `check_row`: the first entry that is refused, after every entry before it has passed, is refused as the whole row.
use Rattle.std.proofs.Common.{refl, arith}
use Rattle.std.proofs.lemmas.Result.{err_from_is_err_and}
use Rattle.outcome.proofs.Tests.{each_refused}
use Rattle.inequalities.proofs.Tests.{entries_in_turn}
use Rattle.delivery.specs.Numbers.{uppers_of}
use Rattle.inequalities.proofs.sides.check_row.Goals as goal

pub returns-in_err-check_side : goal.returns-in_err-check_side
unfolding uppers_of
returns-in_err-check_side c =
    let p = err_from_is_err_and c.from_residual.result c.from_residual.ensures.1 in
    rw (p.1, p.2) (each_refused _ _ _ _ c.loop-q-test.true c.loop-q.invariant (grind (arith, entries_in_turn)) refl)
