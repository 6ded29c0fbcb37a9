-- `numbers_in`: the words of the rest are the numbers found so far, and those that the words of what is left of it are.
use Rattle.std.proofs.Common.{arith, sym, ◌∙◌}
use Rattle.std.proofs.Math.ListN.{length-set}
use Rattle.spelling.proofs.Rest.{numbers_fail, numbers_more, numbers_end}
use Rattle.spelling.proofs.arguments.numbers_in.Goals as goal

pub returns-in_err-number : goal.returns-in_err-number
returns-in_err-number g c =
    let so_far = c.loop-number.invariant in
    rw c.from_residual.ensures
    (sym (numbers_fail g.row.N c.loop-number.number-index _ _ c.loop-number.left.now so_far.0 so_far.1 (omega arith) (sym c.next_number.ensures ∙ rw c.in_err-number.was)))

pub loop-number-preserved : goal.loop-number-preserved
loop-number-preserved g c =
    let so_far = c.loop-number.invariant in (
      simp length-set so_far.0,
      numbers_more g.row.N c.loop-number.number-index _ _ c.loop-number.left.now so_far.0 so_far.1 (omega arith) (sym c.next_number.ensures ∙ rw c.in_ok-number.was),
    )

pub returns : goal.returns
returns g c =
    let so_far = c.loop-number.invariant in
    c.then_some.ensures
    ∙ rw c.is_empty.ensures (sym (numbers_end g.row.N c.loop-number.number-index _ _ c.loop-number.left.now so_far.0 so_far.1 (omega arith)))
