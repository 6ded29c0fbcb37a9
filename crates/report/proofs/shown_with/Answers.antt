-- `shown_with`: the line of the sizes, of the margin, the lines of the live entries and of the rows, one after the other.
use native.Mathlib.Omega.{arith}
use Rattle.report.proofs.Asked.{put_holds, lines_put}
use Rattle.report.proofs.shown_with.Goals as goal

pub returns : goal.returns
returns c = let means = c in
    let chances = means in
    let margin = chances in
    let table = margin in
    let live = table in
    let args = live.args in
    put_holds live.blank-bytes.ensures
    (lines_put args.register _ args.n.states args.n.symbols args.rules live.live_entries-live.ensures margin.margin.ensures
    table.put_table-at.ensures.0 margin.put_margin-at.ensures.0 chances.put_chances-at.ensures.put means.put_means-length.ensures.put)
    (omega arith)
