-- `least_of_row`: the least value carried is that of the shares passed.
use Rattle.shares.proofs.Shares.{share_found, least_none, least_more}
use Rattle.shares.proofs.margin.least_of_row.Goals as goal

pub loop-q-init : goal.loop-q-init
loop-q-init c = least_none _ _

pub loop-q-preserved : goal.loop-q-preserved
loop-q-preserved c = let args = c.args in
    least_more _ _ _ c.loop-q.invariant
    (share_found args.model.now args.n.states args.n.symbols args.live.now args.uppers.now args.row _ c.is_live.ensures c.mark.ensures.0 c.value_at-u.ensures.0 c.entry_in.ensures.0 c.f-y.ensures.0 c.share_at.ensures)
    c.min-least.ensures
