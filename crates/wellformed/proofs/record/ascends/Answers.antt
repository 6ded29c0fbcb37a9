-- `ascends`: the tests are that the record is the first, or has the greater number.
use native.Mathlib.Omega.{arith}
use borrow.Author.Tests.{eq-eqb}
use Rattle.walks.proofs.Exactly.{lt_exactly}
use Rattle.wellformed.proofs.Order.{order_told}
use Rattle.wellformed.proofs.record.ascends.Goals as goal

pub returns-then-i-eq0 : goal.returns-then-i-eq0
returns-then-i-eq0 c = order_told _ _ _ _ (λ e l. absurd (omega arith), λ h. eq-eqb _ 0 (omega arith))

pub returns-else-i-eq0 : goal.returns-else-i-eq0
returns-else-i-eq0 c = order_told _ _ _ _ (λ e l. (lt_exactly _ _).0 e, λ h. (lt_exactly _ _).1 (h (omega arith)))
