use mathlib.Core.Path.{◌≡◌}
use Rattle.held.specs.Clauses.{exits_to}
use Rattle.held.proofs.lists.values_by_exit.Given as goal

abbrev pub invariant-loop-q : goal.invariant-loop-q
invariant-loop-q l = l.list ≡ exits_to l.n l.block l.q
