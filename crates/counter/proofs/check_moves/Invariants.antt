-- `check_moves`: every record before i has passed, so the first that is refused is the outcome of all.
use mathlib.Core.Path.{◌≡◌}
use Rattle.outcome.specs.Tests.{first}
use Rattle.walks.specs.Lists.{each}
use Rattle.counter.specs.Verdict.{move_tests}
use Rattle.counter.proofs.check_moves.Given as goal
use Rattle.outcome.specs.Outcomes.{Accepted}

abbrev pub invariant-loop-i : goal.invariant-loop-i
invariant-loop-i l = first (each l.i (move_tests l.file)) ≡ Accepted
