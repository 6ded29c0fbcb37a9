-- `sums_of`: after i turns the list has the sum of each state over the first i records, and a turn changes that of the record's state alone.
use Prim.Native.Nat.{◌≤◌, ◌<◌}
use native.Mathlib.Omega.{arith}
use mathlib.Core.Path.{◌∙◌}
use Rattle.model.specs.Format.{most_states}
use Rattle.counter.specs.Records.{moves_in}
use Rattle.counter.proofs.StateSums.{sums_none, sums_all, sum_within, sum_at, sums_more}
use Rattle.counter.proofs.sums.sums_of.Goals as goal

pub loop-i-init : goal.loop-i-init
loop-i-init c = sums_none _

pub overflow_add-sums : goal.overflow_add-sums
overflow_add-sums c =
    let right = c.requires in
    let own-state : c.from-u.result < most_states = omega (arith, c.from-u.ensures.0, (right.right c.loop-i.i (omega arith)).from_range) in
    let few : c.loop-i.i ≤ moves_in c.args.file.now = omega arith in
    omega (arith, sum_at _ _ _ c.loop-i.invariant c.from-u.result own-state, right.most, sum_within _ _ right few c.from-u.result)

pub loop-i-preserved : goal.loop-i-preserved
loop-i-preserved c =
    let own-state : c.from-u.result < most_states = omega (arith, c.from-u.ensures.0, (c.requires.right c.loop-i.i (omega arith)).from_range) in
    sums_more _ _ _ c.loop-i.invariant _ _ c.from-u.ensures.0 own-state c.weight.ensures.0

pub returns : goal.returns
returns c = c.loop-i.invariant ∙ sums_all _ _ (omega arith)
