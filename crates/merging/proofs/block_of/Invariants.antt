use Prim.Native.Nat.{◌*◌}
use Rattle.merging.specs.Clauses.{Holds}
use Rattle.merging.proofs.block_of.Given as goal

abbrev pub invariant-loop-row : goal.invariant-loop-row
invariant-loop-row l = Holds l.n.states l.n.symbols l.list (l.row * l.n.states) l.block
