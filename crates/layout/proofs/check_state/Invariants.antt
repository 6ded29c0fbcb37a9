-- `check_state`: every row before symbol z has passed, so the first that is refused is the outcome of all.
use mathlib.Core.Path.{◌≡◌}
use Rattle.outcome.specs.Tests.{first}
use Rattle.walks.specs.Lists.{each}
use Rattle.layout.specs.Clauses.{row_of_state}
use Rattle.layout.proofs.check_state.Given as goal
use Rattle.outcome.specs.Outcomes.{Accepted}

abbrev pub invariant-loop-z : goal.invariant-loop-z
invariant-loop-z l = first (each l.z (row_of_state l.delivery l.block l.at l.exits l.p)) ≡ Accepted
