-- `kept_of`: after e turns the list has the rule's answers to the first e pairs, and 0 from there on.
use Rattle.merging.proofs.Found.{kept_none}
use Rattle.merging.proofs.kept_of.Goals as goal

pub loop-e-init : goal.loop-e-init
loop-e-init g c = kept_none _ _ _
