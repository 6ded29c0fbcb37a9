-- `states`: where the loop ends, the number is the greatest state that any record names.
use native.Mathlib.Omega.{arith}
use mathlib.Core.Path.{◌≡◌}
use Rattle.counter.specs.Records.{moves_in}
use Rattle.counter.proofs.Records.{states_named, states_few}
use Rattle.counter.proofs.sums.states.Goals as goal

pub returns : goal.returns
returns c =
    let all : c.loop-i.i ≡ moves_in c.args.file.now = omega arith in
    let is = states_named _ c.loop-i.invariant.0 all in
    (is, rw is (states_few _ c.requires))
