use mathlib.Core.Path.{◌≡◌}
use Rattle.walks.specs.Order.{exit_in, by_exit}
use Rattle.delivery.specs.Numbers.{uppers_of}
use Rattle.held.specs.Held.{padded}
use Rattle.held.proofs.lists.put_exit.Given as goal

abbrev pub invariant-loop-row : goal.invariant-loop-row
invariant-loop-row l = l.list ≡ padded (by_exit l.n.states l.n.symbols (uppers_of l.n.states l.n.symbols l.block)) (exit_in l.n.states l.n.symbols l.row l.q)
