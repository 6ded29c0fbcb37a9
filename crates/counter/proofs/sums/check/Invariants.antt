-- `check`: every state before u has passed, so the first whose sum is wrong is the outcome of all.
use mathlib.Core.Path.{◌≡◌}
use Rattle.outcome.specs.Tests.{first}
use Rattle.walks.specs.Lists.{each}
use Rattle.counter.specs.Verdict.{state_tests}
use Rattle.counter.proofs.sums.check.Given as goal
use Rattle.outcome.specs.Outcomes.{Accepted}

abbrev pub invariant-loop-u : goal.invariant-loop-u
invariant-loop-u l = first (each l.u (state_tests l.file)) ≡ Accepted
