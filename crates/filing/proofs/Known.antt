-- A test of lists is true exactly where all their first numbers are the same.
use Prim.Native.Nat.{ℕ, ◌<◌}
use mathlib.Core.Bool.{true}
use mathlib.Core.List.{List}
use mathlib.Core.Logic.{◌↔◌}
use mathlib.Core.Path.{◌≡◌}
use lib.ListN.{get_or}
use borrow.Author.Tests.{eqb-true, eq-eqb}
use Rattle.walks.proofs.Sums.{all_exactly}
use Rattle.filing.specs.Known.{same_to}

pub same_exactly : (n : ℕ) (l k : List ℕ) → (same_to n l k ≡ true) ↔ ((e : ℕ) → e < n → get_or l e 0 ≡ get_or k e 0)
unfolding same_to
same_exactly n l k = (
  λ q e lt. eqb-true _ _ ((all_exactly _ n).0 q e lt),
  λ all. (all_exactly _ n).1 (λ e lt. eq-eqb _ _ (all e lt)),
)
