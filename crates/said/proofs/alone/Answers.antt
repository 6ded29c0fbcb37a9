-- `alone`: there are words in the rest exactly where it is not empty.
use Rattle.std.proofs.Common.{rules, tests, sym}
use Rattle.said.proofs.Rest.{alone_none, alone_some}
use Rattle.said.proofs.alone.Goals as goal

pub returns-then-is_empty : goal.returns-then-is_empty
returns-then-is_empty c = sym (alone_none _ _ (search (rules, tests)))

pub returns-else-is_empty : goal.returns-else-is_empty
returns-else-is_empty c = sym (alone_some _ _ (search (rules, tests)))
