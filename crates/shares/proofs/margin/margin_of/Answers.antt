-- `margin_of`: the least value carried is that of the rows passed, and all rows are all entries.
use native.Mathlib.Omega.{arith}
use Rattle.model.proofs.Accepted.{sized_fits}
use Rattle.shares.proofs.Shares.{rows_none, rows_more, rows_all}
use Rattle.shares.proofs.margin.margin_of.Goals as goal

pub loop-k-init : goal.loop-k-init
loop-k-init c = rows_none _ _ _ _ _

pub loop-k-preserved : goal.loop-k-preserved
loop-k-preserved c = rows_more _ _ _ _ _ _ c.loop-k.invariant c.least_of_row-least.ensures

pub returns : goal.returns
returns c = rows_all _ _ _ _ _ _ (sized_fits c.requires.0.sized).some_symbols (omega arith) c.loop-k.invariant
