use Rattle.text.proofs.Puts.{Joined}
use Rattle.walks.specs.Order.{by_row}
use Rattle.history.specs.Run.{reply_of}
use Rattle.report.specs.Printed.{steps_at}
use Rattle.lines.specs.Clauses.{steps_room}
use Rattle.report.proofs.steps.put_means.Given as goal

abbrev pub invariant-loop-k : goal.invariant-loop-k
invariant-loop-k l = Joined (by_row l.n.symbols (steps_at (reply_of l.register))) steps_room l.k-end l.initial.out l.out l.at-2 l.at l.k
