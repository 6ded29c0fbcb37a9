-- `values`: after e turns the list has the values of the first e records, and 0 from there on.
use Rattle.held.proofs.Listed.{values_none}
use Rattle.held.proofs.lists.values.Goals as goal

pub loop-e-init : goal.loop-e-init
loop-e-init c = values_none _
