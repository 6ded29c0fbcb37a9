-- `put_fields`: after the word, the text carried is the numbers passed.
use Rattle.text.proofs.Puts.{spaced_one}
use Rattle.text.proofs.put_fields.Goals as goal

pub loop-n-preserved : goal.loop-n-preserved
loop-n-preserved c = spaced_one c.loop-n.invariant c.loop-n-test.true c.put_field-at.ensures
