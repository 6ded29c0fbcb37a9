-- `start`: every record passed is of an earlier row, and the records ascend.
use native.Mathlib.Omega.{arith}
use mathlib.Core.Path.{◌≡◌}
use borrow.Author.Count.{below_more}
use Rattle.model.specs.Rules.{row_of}
use Rattle.model.proofs.Records.{fits_narrow}
use Rattle.model.proofs.Accepted.{sized_fits, record_row}
use Rattle.rows.proofs.Ranges.{starts_here}
use Rattle.rows.proofs.start.Goals as goal

pub row-requires : goal.row-requires
row-requires c = let sized = c.requires.sized in
    let row = record_row sized {i = c.loop-at.at} (omega arith) in
    (fits_narrow (sized_fits sized), rw c.state.ensures.0 row.0, rw c.symbol.ensures.0 row.1)

pub returns-then-k-row : goal.returns-then-k-row
unfolding row_of
returns-then-k-row c =
    let row_read : c.row.result ≡ row_of c.args.model.now c.args.n.symbols c.loop-at.at = rw (c.row.ensures.0, c.symbol.ensures.0, c.state.ensures.0) in
    let inv = c.loop-at.invariant in
    starts_here c.requires.sized (omega arith) inv.1 (omega (arith, row_read))

pub loop-at-preserved : goal.loop-at-preserved
unfolding row_of
loop-at-preserved c =
    let row_read : c.row.result ≡ row_of c.args.model.now c.args.n.symbols c.loop-at.at = rw (c.row.ensures.0, c.symbol.ensures.0, c.state.ensures.0) in
    let inv = c.loop-at.invariant in
    (inv.0, below_more _ _ inv.1 (omega (arith, row_read)))
