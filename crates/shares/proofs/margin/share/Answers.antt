-- `share`: an upper that is not above f leaves nothing to divide; else both sides of the definition's quotient have the factor 2^20, which the code leaves out.
use native.Mathlib.Omega.{arith}
use Rattle.shares.proofs.Shares.{share_none, share_divided}
use Rattle.shares.proofs.margin.share.Goals as goal

pub returns-then-upper-y : goal.returns-then-upper-y
returns-then-upper-y c = share_none _ _ (omega arith)

pub returns : goal.returns
returns c = share_divided _ _
