use Rattle.walks.specs.Order.{entry_in}
use Rattle.merging.specs.Clauses.{Holds}
use Rattle.merging.proofs.put_row.Given as goal

abbrev pub invariant-loop-q : goal.invariant-loop-q
invariant-loop-q l = Holds l.n.states l.n.symbols l.list (entry_in l.n.states l.row l.q) l.block
