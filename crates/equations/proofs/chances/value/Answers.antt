-- `value`: the entry's record is one of the block's.
use Rattle.delivery.specs.Numbers.{uppers_of}
use Rattle.equations.proofs.chances.value.Goals as goal

pub returns : goal.returns
unfolding uppers_of
returns c = (rw (c.value_at.ensures.0, c.entry.ensures.0), c.value_at.ensures.1)
