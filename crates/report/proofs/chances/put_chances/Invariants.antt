use Rattle.text.proofs.Puts.{Joined}
use Rattle.walks.specs.Order.{by_entry}
use Rattle.ppda.specs.Equations as equations
use Rattle.history.specs.Run.{reply_of}
use Rattle.report.specs.Printed.{chance_at}
use Rattle.lines.specs.Clauses.{chance_room}
use Rattle.report.proofs.chances.put_chances.Given as goal

abbrev pub invariant-loop-e : goal.invariant-loop-e
invariant-loop-e l = Joined (by_entry l.n.states l.n.symbols (chance_at (reply_of l.register) (equations.entries l.n.states l.n.symbols l.gaps))) chance_room l.e-end l.initial.out l.out l.at-2 l.at l.e
