-- `check`: every row before number k has passed.
use mathlib.Core.Path.{◌≡◌}
use Rattle.outcome.specs.Tests.{first}
use Rattle.walks.specs.Lists.{each}
use Rattle.inequalities.specs.Clauses.{side_row}
use Rattle.inequalities.proofs.sides.check.Given as goal
use Rattle.outcome.specs.Outcomes.{Accepted}

abbrev pub invariant-loop-k : goal.invariant-loop-k
invariant-loop-k l = first (each l.k (side_row l.side l.model l.n l.live l.block)) ≡ Accepted
