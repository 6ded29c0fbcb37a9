-- `live_entries`: the count is of the entries passed that are live.
use mathlib.Core.Path.{ap, ◌∙◌}
use Rattle.walks.specs.Sums.{bit, sum_to}
use Rattle.report.specs.Printed.{live_entries}
use Rattle.report.proofs.Counts.{counted_none, counted_bit, counted_all}
use Rattle.report.proofs.Asked.{live_said}
use Rattle.report.proofs.alive.live_entries.Goals as goal

pub loop-e-init : goal.loop-e-init
loop-e-init c = counted_none _ _ _

pub loop-e-preserved : goal.loop-e-preserved
loop-e-preserved c = let said = live_said _ _ _ _ c.live-answer.ensures c.says_live.ensures in
    counted_bit _ c.loop-e.invariant c.loop-e-test.true c.from-count.ensures (ap bit said)

pub returns : goal.returns
unfolding live_entries
returns c = (counted_all c.loop-e.invariant c.loop-e-test.false).0 ∙ ap (sum_to _) c.entries-e-end.ensures.0
