use Prim.Native.Nat.{◌≤◌}
use mathlib.Core.Path.{◌≡◌}
use Rattle.outcome.specs.Tests.{first}
use Rattle.walks.specs.Lists.{each}
use Rattle.walks.specs.Order.{rows_in}
use Rattle.model.specs.Format.{most_rows}
use Rattle.model.specs.Clauses.{StartsAt}
use Rattle.model.specs.Records.{states_of, symbols_of}
use Rattle.wellformed.specs.Verdict.{row_tests}
use Rattle.wellformed.proofs.row_sums.check.Given as goal
use Rattle.outcome.specs.Outcomes.{Accepted}

abbrev pub invariant-loop-k : goal.invariant-loop-k
invariant-loop-k l = (l.rows ≤ most_rows) × (l.rows ≡ rows_in (states_of l.model) (symbols_of l.model)) × (first (each l.k (row_tests l.model)) ≡ Accepted)
    × StartsAt l.model l.n.symbols l.k l.next
