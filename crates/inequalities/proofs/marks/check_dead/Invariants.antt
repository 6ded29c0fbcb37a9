-- `check_dead`: every row before number k has passed.
use mathlib.Core.Path.{◌≡◌}
use Rattle.outcome.specs.Tests.{first}
use Rattle.walks.specs.Lists.{each}
use Rattle.inequalities.specs.Clauses.{dead_row}
use Rattle.inequalities.proofs.marks.check_dead.Given as goal
use Rattle.outcome.specs.Outcomes.{Accepted}

abbrev pub invariant-loop-k : goal.invariant-loop-k
invariant-loop-k l = first (each l.k (dead_row l.n l.live l.block l.from)) ≡ Accepted
