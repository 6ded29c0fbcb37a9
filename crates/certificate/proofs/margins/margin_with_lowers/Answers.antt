-- `margin_with_lowers`: the first V records of an accepted delivery are its uppers, in range, and their margin is the delivery's.
use native.Mathlib.Omega.{arith}
use mathlib.Core.Path.{sym}
use lib.Seq.{length-take-le}
use Rattle.model.proofs.Accepted.{sized_fits}
use Rattle.delivery.proofs.Shapes.{uppers_fit}
use Rattle.certificate.proofs.Steps.{accepted_in_range, margin_of_part}
use Rattle.certificate.proofs.margins.margin_with_lowers.Goals as goal

pub entries-requires : goal.entries-requires
entries-requires c = sized_fits c.requires.0.file.sized

pub slice_bounds-uppers-end : goal.slice_bounds-uppers-end
slice_bounds-uppers-end c = let whole = uppers_fit _ _ _ _ c.requires.0.file.of in
    sym (length-take-le _ _ (omega (arith, whole)))

pub margin_of_uppers-requires : goal.margin_of_uppers-requires
margin_of_uppers-requires c = let pre = c.requires.0 in
    (pre.file.sized, accepted_in_range _ pre.file.sized pre.file.of pre.accepted c.entries.ensures.0)

pub returns : goal.returns
returns c = let pre = c.requires.0 in
    margin_of_part pre.file.sized _ c.entries.ensures.0 c.margin_of_uppers.ensures
