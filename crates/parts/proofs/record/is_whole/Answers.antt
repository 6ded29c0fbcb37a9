-- `is_whole`: the test is the definition's, and a record has bytes.
use Rattle.parts.specs.Parts.{is_whole}
use Rattle.parts.proofs.record.is_whole.Goals as goal

pub returns : goal.returns
unfolding is_whole
returns c = rw c.size_of.ensures
