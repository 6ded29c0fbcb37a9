-- `key_number`: the number is the definition's, of the fields read.
use native.Mathlib.Omega.{arith}
use Rattle.model.proofs.Numbers.{number_of_fields}
use Rattle.model.proofs.record.key_number.Goals as goal

pub returns : goal.returns
returns c =
    number_of_fields _ _ c.state-p.ensures.0 c.symbol-z.ensures.0 c.target-q.ensures.0
    c.pushes-l.ensures.0 c.top-y.ensures.0 c.under-x.ensures.0 (omega arith)
