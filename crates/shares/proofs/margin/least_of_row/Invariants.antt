use Prim.Native.Nat.{◌/◌, ◌%◌}
use mathlib.Core.Path.{◌≡◌}
use Rattle.walks.specs.Sums.{least_to}
use Rattle.shares.specs.Clauses.{share_of}
use Rattle.shares.proofs.margin.least_of_row.Given as goal

abbrev pub invariant-loop-q : goal.invariant-loop-q
invariant-loop-q l = l.least ≡ least_to l.least-2 (share_of l.model l.n.states l.n.symbols l.live l.uppers (l.row / l.n.symbols) (l.row % l.n.symbols)) l.q
