-- The margin as the code works it out, from the rows' marks and the block of uppers; and what u − f(u) is worked out of.
use Rattle.std.specs.Prelude.{ℕ, List}
use Rattle.walks.specs.Sums.{least_to}
use Rattle.ppda.specs.Units.{chance_unit}
use Rattle.walks.specs.Order.{by_row}
use Rattle.ppda.specs.Equations.{f}
use Rattle.ppda.specs.Live.{is_live}
use Rattle.ppda.specs.Margin.{share_at}
use Rattle.ppda.specs.Bounds as Bounds
use Rattle.model.specs.declared.sizes.Sizes.{Sizes}
use Rattle.model.specs.Rules.{rules_of}
use Rattle.delivery.specs.Numbers.{uppers_of}
use Rattle.delivery.specs.Clauses.{Chances}
use Rattle.live.specs.Clauses.{exit_marks}
use Rattle.rows.specs.Clauses.{Indexed}

-- The part of entry (p, z, q) in the margin, for the rows' marks a and the uppers of the block u.
abbrev pub share_of : List ℕ → ℕ → ℕ → List ℕ → List ℕ → ℕ → ℕ → ℕ → ℕ
share_of b s g a u p z q =
    share_at (is_live (exit_marks g a p z q)) (uppers_of s g u p z q) (f (rules_of b) s chance_unit (uppers_of s g u) p z q)

-- The least of them and of `top` in row number k.
abbrev pub least_in_row : ℕ → List ℕ → Sizes → List ℕ → List ℕ → ℕ → ℕ
least_in_row top b n a u k =
    least_to top (by_row n.symbols (share_of b n.states n.symbols a u) k) n.states

-- The least of all.
unfoldable pub least_share : List ℕ → ℕ → ℕ → List ℕ → List ℕ → ℕ
least_share b s g a u = least_to chance_unit (λ p. least_to chance_unit (λ z. least_to chance_unit (share_of b s g a u p z) s) g) s

-- Uppers of a model that stand: each is at least f.
pub record Standing (b : List ℕ) (n : Sizes) (starts d : List ℕ) : Type 0 where
  pub indexed : Indexed b n starts
  pub chances : Chances n d
  pub above : Bounds.Uppers (rules_of b) n.states n.symbols (uppers_of n.states n.symbols d)
