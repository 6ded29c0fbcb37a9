-- `check_block`: every state before p has passed, so the first that is refused is the outcome of all.
use mathlib.Core.Path.{◌≡◌}
use Rattle.outcome.specs.Tests.{first}
use Rattle.walks.specs.Lists.{each}
use Rattle.layout.specs.Clauses.{state_of_block}
use Rattle.layout.proofs.check_block.Given as goal
use Rattle.outcome.specs.Outcomes.{Accepted}

abbrev pub invariant-loop-p : goal.invariant-loop-p
invariant-loop-p l = first (each l.p (state_of_block l.delivery l.block l.from l.exits l.g)) ≡ Accepted
