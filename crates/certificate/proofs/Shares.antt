-- The margin as the code works it out is the theory's.
use Prim.Native.Nat.{ℕ}
use mathlib.Core.List.{List}
use mathlib.Core.Path.{◌≡◌, ap}
use Rattle.ppda.specs.Units.{chance_unit}
use Rattle.ppda.specs.Equations.{f, Same}
use Rattle.ppda.specs.Live.{is_live, alive}
use Rattle.ppda.specs.Margin.{share_at, margin}
use Rattle.walks.proofs.Sums.{least_to_cong}
use Rattle.model.specs.Rules.{rules_of}
use Rattle.delivery.specs.Numbers.{uppers_of}
use Rattle.live.specs.Clauses.{exit_marks}
use Rattle.shares.specs.Clauses.{least_share}

-- The list a has the live marks of the model by rows, and the bytes u start with the uppers.
pub least_share_lem : (b : List ℕ) (s g : ℕ) (a u : List ℕ) → Same s g (exit_marks g a) (alive (rules_of b) s g)
    → least_share b s g a u ≡ margin (rules_of b) s g (uppers_of s g u)
unfolding least_share margin
least_share_lem b s g a u marks =
    least_to_cong chance_unit _ _ s (λ p hp. least_to_cong chance_unit _ _ g (λ z hz. least_to_cong chance_unit _ _ s (λ q hq.
    ap (λ n. share_at (is_live n) (uppers_of s g u p z q) (f (rules_of b) s chance_unit (uppers_of s g u) p z q)) (marks p z q hp hz hq))))
