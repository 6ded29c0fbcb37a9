use mathlib.Core.Path.{◌≡◌}
use Rattle.walks.specs.Lists.{list_to}
use Rattle.model.specs.Format.{most_states}
use Rattle.counter.proofs.StateSums.{sum_before}
use Rattle.counter.proofs.sums.sums_of.Given as goal

abbrev pub invariant-loop-i : goal.invariant-loop-i
invariant-loop-i l = l.sums ≡ list_to (sum_before l.file l.i) most_states
