-- `put_row`: after q turns the first q records of the row have as values what is listed by exit for the row and these exits.
use Prim.Native.Nat.{◌+◌, ◌*◌}
use native.Mathlib.Omega.{arith}
use mathlib.Core.Path.{ap, ◌∙◌}
use lib.ListN.{get_or}
use Rattle.delivery.specs.Format.{record_bytes, value_byte}
use Rattle.merging.proofs.Lists.{holds_step, holds_end, listed_in}
use Rattle.merging.proofs.put_row.Goals as goal

pub loop-q-preserved : goal.loop-q-preserved
loop-q-preserved c =
    let n = c.args.n in
    let list = c.args.list.now in
    let entry = c.entry_in-e in
    let exit = c.exit_in-at in
    rw c.put_word.ensures
    (holds_end
    (holds_step c.loop-q.invariant (omega (arith, entry.ensures.0, entry.ensures.1, c.requires.listed.1.few_entries)) (c.requires.listed.0 exit.result)
    (ap (λ e. record_bytes * e + value_byte) entry.ensures.0)
    (ap (λ i. get_or list i 0) exit.ensures.0 ∙ listed_in n.states n.symbols list c.args.row c.loop-q.q c.requires.listed.2 (omega arith)))
    (omega arith))
