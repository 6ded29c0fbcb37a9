-- `block_of`: after each turn the records of one row more have the listed uppers as values, and the others 0.
use native.Mathlib.Omega.{arith}
use mathlib.Core.Path.{refl}
use Rattle.merging.proofs.Lists.{holds_none, holds_end}
use Rattle.merging.proofs.block_of.Goals as goal

pub loop-row-init : goal.loop-row-init
loop-row-init c = holds_end (holds_none _ _ _ _ refl) (omega arith)
