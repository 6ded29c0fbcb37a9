use Rattle.model.specs.Clauses.{SizesTo}
use Rattle.model.proofs.sizes.sizes_of.Given as goal

abbrev pub invariant-loop-i : goal.invariant-loop-i
invariant-loop-i l = SizesTo l.model l.i l.sizes
