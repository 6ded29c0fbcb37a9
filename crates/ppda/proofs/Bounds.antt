-- Mission point 3 whole, and the tail of request A.7: what a certificate claims is true of the runs; and that two certificates of one model never
-- contradict each other (request A.5).
use Prim.Native.Nat.{ℕ, ◌≤◌}
use mathlib.Core.List.{List}
use Rattle.walks.specs.Order.{AtEntries}
use Rattle.ppda.specs.Rules.{Rule, IsModel}
use Rattle.ppda.specs.Equations.{Vector, RowVector}
use Rattle.ppda.specs.Margin.{margin}
use Rattle.ppda.specs.Bounds.{Uppers, Means, Certificate, UppersHold, LowersHold, MeansHold, TailsHold}
use Rattle.ppda.proofs.Upper.{upper_holds}
use Rattle.ppda.proofs.Lower.{lower_holds}
use Rattle.ppda.proofs.Mean.{mean_holds}
use Rattle.ppda.proofs.Tail.{tail_of_mean}
use Rattle.ppda.proofs.Agree.{lower_under_upper}

pub tail_holds : (m : List Rule) (s g : ℕ) (u : Vector) (r : RowVector) → IsModel s g m → Uppers m s g u → Means m s g u r → TailsHold m s g r
tail_holds m s g u r model uppers means p z hp hz = tail_of_mean m s g model p z (r p z) hp hz (mean_holds m s g u r model uppers means p z hp hz)

pub certificate_holds : (m : List Rule) (s g : ℕ) (u l : Vector) (r : RowVector) → IsModel s g m → Certificate m s g u l r
    → UppersHold m s g u × LowersHold m s g u l (margin m s g u) × MeansHold m s g r × TailsHold m s g r
certificate_holds m s g u l r model c = (
  upper_holds m s g u model c.uppers,
  lower_holds m s g u l model c.uppers c.lowers,
  mean_holds m s g u r model c.uppers c.means,
  tail_holds m s g u r model c.uppers c.means,
)

-- Two certificates of one model: each lower of the one is at most the upper of the other, and the other way round.
pub certificates_agree : (m : List Rule) (s g : ℕ) → IsModel s g m → (u l v k : Vector) (r t : RowVector) → Certificate m s g u l r → Certificate m s g v k t
    → AtEntries s g (λ p z q. (l p z q ≤ v p z q) × (k p z q ≤ u p z q))
certificates_agree m s g model u l v k r t one other p z q hp hz hq = (
  lower_under_upper m s g model u l v one.uppers one.lowers other.uppers p z q hp hz hq,
  lower_under_upper m s g model v k u other.uppers other.lowers one.uppers p z q hp hz hq,
)
