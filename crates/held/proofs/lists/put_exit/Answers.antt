-- `put_exit`: after each turn the values of one row more stand behind those of the exits before q, at the place of this row and exit.
use Prim.Native.Nat.{◌<◌}
use native.Mathlib.Omega.{arith}
use mathlib.Core.Path.{ap, ◌∙◌}
use Rattle.walks.specs.Order.{rows_in}
use Rattle.delivery.specs.Records.{value_at}
use Rattle.held.proofs.Listed.{exit_value_lem, exits_more}
use Rattle.held.proofs.lists.put_exit.Goals as goal

pub loop-row-preserved : goal.loop-row-preserved
loop-row-preserved c =
    let args = c.args in
    let n = args.n in
    let row = c.loop-row.row in
    let exit = c.exit_in-at.ensures in
    let below : row < rows_in n.states n.symbols = omega (arith, c.rows-row-end.ensures.0) in
    let value = c.value_at.ensures.0 ∙ ap (value_at args.block.now) c.entry_in-e.ensures.0
    ∙ exit_value_lem n.states n.symbols row args.q args.block.now below in
    exits_more n.states n.symbols row args.q _ c.loop-row.invariant exit.0 (omega (arith, exit.0, exit.1, c.requires.0.fits.few_entries)) value
