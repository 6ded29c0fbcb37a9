use mathlib.Core.Path.{◌≡◌}
use Rattle.model.specs.Records.{records_of}
use Rattle.wellformed.proofs.Sums.{SumBefore}
use Rattle.wellformed.proofs.row_sums.sum_of_row.Given as goal

abbrev pub invariant-loop-at : goal.invariant-loop-at
invariant-loop-at l = (l.end ≡ records_of l.model) × SumBefore l.model l.n.symbols l.k l.i l.at l.sum
