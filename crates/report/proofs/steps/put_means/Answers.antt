-- `put_means`: the text carried is the lines of the rows passed.
use Rattle.text.proofs.Puts.{joined_none, joined_more, joined_all, joined_as}
use Rattle.history.specs.Run.{reply_of}
use Rattle.report.specs.Printed.{steps_lines}
use Rattle.report.proofs.steps.put_means.Goals as goal

pub loop-k-init : goal.loop-k-init
loop-k-init c = joined_none _ _ _ _ _

pub loop-k-preserved : goal.loop-k-preserved
unfolding reply_of
loop-k-preserved c = joined_more c.loop-k.invariant c.loop-k-test.true (rw (← c.mean_steps.ensures) c.put_steps-at.ensures)

pub returns-clause-put : goal.returns-clause-put
unfolding steps_lines
returns-clause-put c = let (text, most) = joined_all c.loop-k.invariant c.loop-k-test.false in
    joined_as _ c.rows-k-end.ensures.0 text
