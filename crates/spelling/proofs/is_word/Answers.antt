-- `is_word`: two words are equal where they are the same, byte by byte.
use Rattle.std.proofs.Common.{rules}
use Rattle.spelling.proofs.Words.{same_is_pointwise}
use Rattle.spelling.proofs.is_word.Goals as goal

pub returns : goal.returns
returns c = search (rules, same_is_pointwise)
