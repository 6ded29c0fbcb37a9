use mathlib.Core.Path.{◌≡◌}
use Rattle.shares.proofs.Shares.{least_of_rows}
use Rattle.shares.proofs.margin.margin_of.Given as goal

abbrev pub invariant-loop-k : goal.invariant-loop-k
invariant-loop-k l = l.least ≡ least_of_rows l.model l.n.states l.n.symbols l.live l.uppers l.k
