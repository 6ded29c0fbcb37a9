-- `round`: each turn puts the next exits of one more row.
use native.Mathlib.Omega.{arith}
use Rattle.live.proofs.Marks.{round_more}
use Rattle.live.proofs.rounds.round.Goals as goal

pub loop-k-preserved : goal.loop-k-preserved
loop-k-preserved c = round_more _ c.loop-k.invariant (omega arith) c.next_exits.ensures
