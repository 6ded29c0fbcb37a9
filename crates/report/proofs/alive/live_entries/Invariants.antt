use Rattle.walks.specs.Order.{by_entry}
use Rattle.history.specs.Run.{reply_of}
use Rattle.report.specs.Printed.{live_at}
use Rattle.report.proofs.Counts.{Counted}
use Rattle.report.proofs.alive.live_entries.Given as goal

abbrev pub invariant-loop-e : goal.invariant-loop-e
invariant-loop-e l = Counted (by_entry l.fn.n.states l.fn.n.symbols (live_at (reply_of l.fn.register))) 1 l.e-end l.count l.e
