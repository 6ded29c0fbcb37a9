-- `find_starts`: each row starts where `start` finds it, and what was passed before stays earlier than the next row.
use Rattle.model.proofs.Accepted.{sized_fits}
use Rattle.rows.proofs.find_starts.Goals as goal

pub rows-rows-requires : goal.rows-rows-requires
rows-rows-requires c = sized_fits c.requires.0
