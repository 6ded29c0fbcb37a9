-- `numbers_of`: the delivery has its shape, so its blocks and its margin are those that are found.
use Rattle.delivery.proofs.Shapes.{uppers_fit}
use Rattle.model.proofs.Accepted.{sized_fits}
use Rattle.held.proofs.Becomes.{numbers_are}
use Rattle.held.proofs.filing.numbers_of.Goals as goal

pub values_by_exit-requires : goal.values_by_exit-requires
values_by_exit-requires c = let file = c.requires.file in
    record { fits = sized_fits file.sized; whole = uppers_fit _ _ _ _ file.of }

pub lowers_of-requires : goal.lowers_of-requires
lowers_of-requires c = let file = c.requires.file in record { fits = sized_fits file.sized; of = file.of }

pub means_of-requires : goal.means_of-requires
means_of-requires c = let file = c.requires.file in record { fits = sized_fits file.sized; of = file.of }

pub returns : goal.returns
returns c = let sized = c.requires.file.sized in
    numbers_are _ _ sized.states sized.symbols _ c.values_by_exit.ensures c.lowers_of.ensures c.means_of.ensures c.margin_or_zero.ensures
