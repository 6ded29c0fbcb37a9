-- `is_silent`: a line that is not empty starts with its first byte.
use Rattle.std.proofs.Common.{rules, tests}
use Rattle.said.proofs.Calls.{silent_by}
use Rattle.said.proofs.is_silent.Goals as goal

pub returns : goal.returns
returns c = silent_by _ _ _ c.first.ensures.value c.is_none_or.ensures (λ b is. search (rules, tests))
