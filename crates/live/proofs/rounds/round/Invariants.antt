use Rattle.live.specs.Clauses.{RoundTo}
use Rattle.live.proofs.rounds.round.Given as goal

abbrev pub invariant-loop-k : goal.invariant-loop-k
invariant-loop-k l = RoundTo l.model l.n.states l.n.symbols l.marks l.k l.next
