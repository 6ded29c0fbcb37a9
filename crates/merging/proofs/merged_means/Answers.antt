-- `merged_means`: the rule's answers are the smaller of each pair.
use borrow.Author.Rules.{rules}
use Rattle.merging.proofs.Found.{kept_is}
use Rattle.merging.proofs.merged_means.Goals as goal

pub returns : goal.returns
returns c = let list = kept_is c.kept_of.ensures in search rules
