use mathlib.Core.Path.{◌≡◌}
use Rattle.outcome.specs.Tests.{first}
use Rattle.walks.specs.Lists.{each}
use Rattle.model.specs.Clauses.{SizesTo}
use Rattle.wellformed.specs.Verdict.{record_tests}
use Rattle.wellformed.specs.Clauses.{NumberedBefore}
use Rattle.wellformed.proofs.check_records.Given as goal
use Rattle.outcome.specs.Outcomes.{Accepted}

abbrev pub invariant-loop-i : goal.invariant-loop-i
invariant-loop-i l = (first (each l.i (record_tests l.model)) ≡ Accepted) × NumberedBefore l.model l.i l.before × SizesTo l.model l.i l.sizes
