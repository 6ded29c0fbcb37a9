-- `check`: every row before number k has passed.
use mathlib.Core.Path.{◌≡◌}
use Rattle.outcome.specs.Tests.{first}
use Rattle.walks.specs.Lists.{each}
use Rattle.walks.specs.Order.{by_row}
use Rattle.inequalities.specs.Clauses.{mean_at}
use Rattle.inequalities.proofs.means.check.Given as goal
use Rattle.outcome.specs.Outcomes.{Accepted}

abbrev pub invariant-loop-k : goal.invariant-loop-k
invariant-loop-k l = first (each l.k (by_row l.n.symbols (mean_at l.model l.n.states l.n.symbols l.uppers l.means l.from))) ≡ Accepted
