-- `next_exits`: the exits so far are those that the row's records passed give.
use Prim.Native.Nat.{◌+◌}
use native.Mathlib.Omega.{arith}
use Rattle.live.proofs.Bits.{exits_none, exits_more, exits_end}
use Rattle.live.proofs.exits.next_exits.Goals as goal

pub loop-i-init : goal.loop-i-init
loop-i-init c = let args = c.args in
    let pre = c.requires in (
      rw c.from-end.ensures (pre.0.starts_at (args.row + 1) (omega arith)).within,
      pre.0.sized.file.records.most,
      λ q h. rw (c.from-end.ensures, c.from-start.ensures) (exits_none _ _ _ _ _ args.starts.now pre.0.sized pre.0.starts_at pre.1 q),
    )

pub loop-i-preserved : goal.loop-i-preserved
loop-i-preserved c = let inv = c.loop-i.invariant in
    (inv.0, inv.1, λ q h. exits_more (inv.2 q h) c.exits_through.result c.loop-i-test.true (c.exits_through.ensures q) (c.joined-exits.ensures q))

pub returns : goal.returns
returns c = λ q h. exits_end (c.loop-i.invariant.2 q h) c.loop-i-test.false
