-- `merged_margin`: where lowers stand the margin of the block is that of the listed uppers, and else 0 is shown.
use Rattle.model.proofs.Accepted.{sized_fits}
use Rattle.merging.proofs.Lists.{block_in_range}
use Rattle.merging.proofs.Found.{margin_listed}
use Rattle.merging.proofs.merged_margin.Goals as goal

pub block_of-requires : goal.block_of-requires
block_of-requires c = (c.requires.1, sized_fits c.requires.0)

pub margin_of_uppers-requires : goal.margin_of_uppers-requires
margin_of_uppers-requires c = (c.requires.0, block_in_range _ _ c.block_of.ensures c.requires.1 (sized_fits c.requires.0).few_entries)

pub returns-then-stand : goal.returns-then-stand
returns-then-stand c = rw c.if-stand.true (margin_listed c.requires.0 c.block_of.ensures c.margin_of_uppers.ensures)
