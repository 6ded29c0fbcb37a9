-- `sum_over_states`: the sum so far is that over the states passed.
use native.Mathlib.Omega.{arith}
use Rattle.rows.proofs.Sums.{states_none, states_more}
use Rattle.equations.proofs.sums.sum_over_states.Goals as goal

pub loop-t-init : goal.loop-t-init
loop-t-init g c = (omega arith, λ value is. states_none)

pub loop-t-preserved : goal.loop-t-preserved
loop-t-preserved g c = (
  omega (arith, c.requires.small _ _ c.loop-t-test.true c.term-sum.ensures),
  λ value is. states_more (c.loop-t.invariant.1 value is) c.loop-t-test.true (is _ _ c.loop-t-test.true c.term-sum.ensures),
)
