-- `with_record`: a size is the greater of the one before and one more than what the record names.
use Rattle.model.proofs.Records.{sizes_more}
use Rattle.model.proofs.sizes.Sizes.with_record.Goals as goal

pub returns : goal.returns
returns c = sizes_more c.requires.1 c.state_named.ensures c.symbol_named.ensures c.max.ensures c.max-2.ensures
