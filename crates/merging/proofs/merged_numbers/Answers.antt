-- `merged_numbers`: each list and the margin is the definition's, since the second delivery is accepted and has its shape.
use Rattle.model.proofs.Accepted.{sized_fits}
use Rattle.delivery.proofs.Shapes.{uppers_fit}
use Rattle.merging.proofs.Found.{uppers_in_range, accepted_uppers, numbers_found}
use Rattle.merging.proofs.merged_numbers.Goals as goal

pub merged_uppers-uppers-requires : goal.merged_uppers-uppers-requires
merged_uppers-uppers-requires c = let file = c.requires.file in
    record { fits = sized_fits file.sized; whole = uppers_fit _ _ _ _ file.of }

pub merged_lowers-lowers-requires : goal.merged_lowers-lowers-requires
merged_lowers-lowers-requires c = let file = c.requires.file in record { fits = sized_fits file.sized; of = file.of }

pub merged_means-means-requires : goal.merged_means-means-requires
merged_means-means-requires c = let file = c.requires.file in record { fits = sized_fits file.sized; of = file.of }

pub merged_margin-margin-requires : goal.merged_margin-margin-requires
merged_margin-margin-requires c = let start = c in
    let file = start.requires.file in
    (file.sized, rw c.merged_uppers-uppers.ensures (uppers_in_range (sized_fits file.sized) start.args.former _ (accepted_uppers _ _ file.sized start.requires.accepted)))

pub returns : goal.returns
returns c = let start = c in
    let args = start.args in
    let sized = start.requires.file.sized in
    numbers_found args.model.now args.file.now sized.states sized.symbols args.held args.second args.former
    c.merged_uppers-uppers.ensures c.merged_lowers-lowers.ensures c.merged_means-means.ensures
    c.both_lowers.ensures c.merged_margin-margin.ensures
