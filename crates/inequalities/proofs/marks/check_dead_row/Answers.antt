-- `check_dead_row`: the first dead number that is not 0, after every number before it has passed, is refused as the whole row.
use Rattle.std.proofs.Common.{arith}
use Rattle.outcome.proofs.Tests.{each_refused}
use Rattle.inequalities.proofs.Tests.{entries_in_turn}
use Rattle.inequalities.specs.Inequalities.{dead_test}
use Rattle.outcome.specs.Tests.{first}
use Rattle.delivery.specs.Numbers.{uppers_of}
use Rattle.inequalities.proofs.marks.check_dead_row.Goals as goal

pub returns-then-value_at-ne0 : goal.returns-then-value_at-ne0
unfolding dead_test first uppers_of
returns-then-value_at-ne0 c =
    each_refused _ _ _ _ c.loop-q-test.true c.loop-q.invariant (grind (arith, entries_in_turn)) c.refused.ensures
