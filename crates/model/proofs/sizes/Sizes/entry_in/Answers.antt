-- `entry_in`: an entry of a row is below the number of entries, of which narrow sizes have few.
use Prim.Native.Nat.{◌+◌, ◌*◌, ◌<◌}
use mathlib.Core.Path.{refl}
use Rattle.walks.proofs.Places.{row_below}
use Rattle.model.proofs.sizes.Sizes.entry_in.Goals as goal

pub returns : goal.returns
returns c =
    let below : let n = c.args.self in c.args.row * n.states + c.args.q < n.states * n.symbols * n.states = row_below _ _ _ _ c.requires.1 c.requires.2 in
    (refl, below)
