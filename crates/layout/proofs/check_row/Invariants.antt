-- `check_row`: every record before exit q has passed, so the first that is refused is the outcome of all.
use mathlib.Core.Path.{◌≡◌}
use Rattle.outcome.specs.Tests.{first}
use Rattle.walks.specs.Lists.{each}
use Rattle.layout.specs.Clauses.{record_of_row}
use Rattle.layout.proofs.check_row.Given as goal
use Rattle.outcome.specs.Outcomes.{Accepted}

abbrev pub invariant-loop-q : goal.invariant-loop-q
invariant-loop-q l = first (each l.q (record_of_row l.delivery l.block l.at l.p l.z)) ≡ Accepted
