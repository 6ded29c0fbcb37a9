-- `exits_of_two`: the exits so far are those by way of the states passed, and a state adds its row's where the first symbol ends in it.
use native.Mathlib.Omega.{arith}
use mathlib.Core.Path.{sym, ◌∙◌}
use Rattle.live.proofs.Bits.{two_none, two_with, two_without}
use Rattle.live.proofs.exits.exits_of_two.Goals as goal
use Rattle.live.proofs.exits.exits_of_two.Goals.{then-bit-eq1, else-bit-eq1}

pub loop-t-init : goal.loop-t-init
loop-t-init c = two_none

pub loop-t-preserved : goal.loop-t-preserved
loop-t-preserved c = let inv = c.loop-t.invariant in
    let taken = c.loop-t-test.true in
    let bit = c.bit.ensures in
    elim c.if-bit-eq1.branch [
      | then-bit-eq1 w ↦ two_with inv taken (sym bit.0 ∙ w.if-bit-eq1.true) w.row.ensures.0 w.joined-exits.ensures w.exits-is
      | else-bit-eq1 w ↦ two_without inv taken (sym bit.0 ∙ omega arith) w.exits-is
    ]
