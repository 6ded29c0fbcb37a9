-- `values_by_exit`: after q turns the values of the entries with the first q exits stand in their places, and 0 from there on.
use native.Mathlib.Omega.{arith}
use mathlib.Core.Path.{refl}
use Rattle.held.proofs.Listed.{padded_none, padded_end}
use Rattle.held.proofs.lists.values_by_exit.Goals as goal

pub loop-q-init : goal.loop-q-init
loop-q-init c = padded_end _ (padded_none _ _ refl) (omega arith)
