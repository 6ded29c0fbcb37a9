-- `check_below`: every lower before number e has passed, so the first that is above its upper is the outcome of all.
use mathlib.Core.Path.{◌≡◌}
use Rattle.outcome.specs.Tests.{first}
use Rattle.walks.specs.Lists.{each}
use Rattle.inequalities.specs.Clauses.{below_at}
use Rattle.inequalities.proofs.marks.check_below.Given as goal
use Rattle.outcome.specs.Outcomes.{Accepted}

abbrev pub invariant-loop-e : goal.invariant-loop-e
invariant-loop-e l = first (each l.e (below_at l.lowers l.uppers l.from)) ≡ Accepted
