-- `states`: after i turns the number is the greatest state that the first i records name.
use Prim.Native.Nat.{◌<◌}
use mathlib.Core.Path.{◌≡◌}
use Rattle.walks.specs.Sums.{greatest_to}
use Rattle.counter.specs.Records.{state_in}
use Rattle.counter.proofs.sums.states.Given as goal

abbrev pub invariant-loop-i : goal.invariant-loop-i
invariant-loop-i l = (l.state ≡ greatest_to (state_in l.file) l.i) × (l.state < 256)
