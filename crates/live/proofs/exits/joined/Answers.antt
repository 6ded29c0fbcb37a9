-- `joined`: bit by bit, the greater of the two.
use native.Mathlib.Omega.{arith}
use Rattle.live.proofs.Bits.{bit_or_lem}
use Rattle.live.proofs.exits.joined.Goals as goal

pub returns : goal.returns
returns c = λ q. simp bit_or_lem (omega arith)
