use Rattle.held.specs.Clauses.{Values}
use Rattle.held.proofs.lists.values.Given as goal

abbrev pub invariant-loop-e : goal.invariant-loop-e
invariant-loop-e l = Values l.block l.e l.values
