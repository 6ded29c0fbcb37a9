-- `check_row`: every entry before exit q has passed.
use mathlib.Core.Path.{◌≡◌}
use Rattle.outcome.specs.Tests.{first}
use Rattle.walks.specs.Lists.{each}
use Rattle.walks.specs.Order.{by_row}
use Rattle.inequalities.specs.Clauses.{side_at}
use Rattle.inequalities.proofs.sides.check_row.Given as goal
use Rattle.outcome.specs.Outcomes.{Accepted}

abbrev pub invariant-loop-q : goal.invariant-loop-q
invariant-loop-q l = first (each l.q (by_row l.n.symbols (side_at l.side l.model l.n.states l.n.symbols l.live l.block) l.row)) ≡ Accepted
