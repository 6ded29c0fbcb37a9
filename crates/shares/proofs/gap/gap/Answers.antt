-- `gap`: the entry's upper stands, so that f can be taken from it.
use Rattle.shares.proofs.Shares.{gap_most, gap_found}
use Rattle.shares.proofs.gap.gap.Goals as goal

pub overflow_sub-result : goal.overflow_sub-result
overflow_sub-result c = let pre = c.requires in
    gap_most pre.0 pre.1 pre.2 c.f-y.ensures.0 c.value_at.ensures.0 c.entry_in.ensures.0

pub returns : goal.returns
returns c = let pre = c.requires in
    gap_found pre.0 pre.1 pre.2 c.f-y.ensures.0 c.value_at.ensures.0 c.entry_in.ensures.0
