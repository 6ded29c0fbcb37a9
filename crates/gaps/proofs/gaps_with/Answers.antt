-- `gaps_with`: the numbers of the entries passed are in the list.
use native.Mathlib.Omega.{arith}
use mathlib.Core.Path.{◌∙◌}
use lib.ListN.{get_or-append}
use Rattle.gaps.proofs.Differences.{gaps_filled}
use Rattle.gaps.proofs.gaps_with.Goals as goal

pub returns : goal.returns
returns c = let loop = c.loop-e in
    let args = c.args in
    gaps_filled args.model.now args.uppers.now _ args.n
    (λ e l. get_or-append loop.at_entry-items _ 0 e (omega arith) ∙ loop.invariant.2 e (omega arith))
