-- `sum_over_row`: the sum so far is that over the row's records passed, and the row's records are those from its start to the next row's.
use native.Mathlib.Omega.{arith}
use native.Mathlib.Nat.{zero-add}
use mathlib.Core.Path.{◌∙◌}
use Rattle.std.proofs.Common.{◌+◌, ◌^◌}
use Rattle.rows.proofs.Sums.{row_begin, row_more, row_record, row_end, row_within}
use Rattle.equations.proofs.sums.sum_over_row.Goals as goal

pub loop-i-init : goal.loop-i-init
loop-i-init g c value most gives =
    rw (c.from-i.ensures, c.from-i-end.ensures)
    (row_begin _ _ _ c.args.starts.now c.requires.files.sized c.requires.files.starts_at c.requires.inside)

pub weighed-sum-requires : goal.weighed-sum-requires
weighed-sum-requires g c =
    let (value, gives) = c.requires.small in
    let so = c.loop-i.invariant value (2 ^ 46 + 2 ^ 42) gives in
    let record_in = row_record so c.loop-i-test.true in
    let more = row_more so c.loop-i-test.true c.weight.ensures.0 (gives.given _ _ record_in c.through.ensures) in
    omega (arith, row_within more (2 ^ 46 + 2 ^ 42) gives.small)

pub overflow_add-sum : goal.overflow_add-sum
overflow_add-sum g c =
    let (value, gives) = c.requires.small in
    let so = c.loop-i.invariant value (2 ^ 46 + 2 ^ 42) gives in
    let record_in = row_record so c.loop-i-test.true in
    let more = row_more so c.loop-i-test.true c.weight.ensures.0 (gives.given _ _ record_in c.through.ensures) in
    omega (arith, row_within more (2 ^ 46 + 2 ^ 42) gives.small, c.weighed-sum.ensures)

pub loop-i-preserved : goal.loop-i-preserved
loop-i-preserved g c value most gives =
    let so = c.loop-i.invariant value most gives in
    let record_in = row_record so c.loop-i-test.true in
    rw c.weighed-sum.ensures
    (row_more so c.loop-i-test.true c.weight.ensures.0 (gives.given _ _ record_in c.through.ensures))

pub returns : goal.returns
returns g c value most gives =
    let so = c.loop-i.invariant value most gives in
    (row_end so c.loop-i-test.false ∙ zero-add _, omega (arith, row_within so most gives.small))
