-- `gaps_of`: the first V records of an accepted delivery are uppers that stand, and the numbers need no more of it.
use mathlib.Core.Path.{sym}
use lib.Seq.{length-take-le}
use Rattle.certificate.proofs.Steps.{sized_by_verdict}
use Rattle.gaps.proofs.Differences.{block_fits, block_stands, gaps_of_block}
use Rattle.gaps.proofs.gaps_of.Goals as goal

pub slice_bounds-uppers-end : goal.slice_bounds-uppers-end
slice_bounds-uppers-end c =
    let sized = sized_by_verdict c.args.delivery.now c.requires c.sizes_of-n.ensures.0 in
    sym (length-take-le _ _ (block_fits _ sized c.requires c.entries.ensures.0))

pub gaps_with-requires : goal.gaps_with-requires
gaps_with-requires c = block_stands _ _ c.entries.ensures.0 c.requires c.find_starts.ensures.0

pub returns : goal.returns
returns c = gaps_of_block _ _ c.entries.ensures.0 c.requires c.gaps_with.result c.sizes_of-n.ensures.0 c.gaps_with.ensures
