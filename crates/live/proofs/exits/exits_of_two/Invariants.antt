use Rattle.live.proofs.Bits.{TwoTo}
use Rattle.live.proofs.exits.exits_of_two.Given as goal

abbrev pub invariant-loop-t : goal.invariant-loop-t
invariant-loop-t l = TwoTo l.n.symbols l.marks l.first l.x l.n.states l.t l.exits
