-- What merging gains (request A.5): no number of the merged delivery is less sharp than that of either.
use Rattle.std.specs.Prelude.{ℕ, ◌≤◌, true, List, ◌≡◌}
use Rattle.walks.specs.Order.{AtRows, AtEntries}
use Rattle.delivery.specs.declared.shape.Shape.{Shape}
use Rattle.delivery.specs.Shapes.{has_lowers, has_means}
use Rattle.delivery.specs.Numbers.{uppers_of, lowers_of, means_of}

-- The delivery c of shape j beside the delivery e of shape h, for a model with s states and g symbols: each upper of c is at most that of e; where c has
-- lowers, e has them too and each of c is at least that of e; where e has mean steps, c has them too and each of c is at most that of e.
pub record Sharper (s g : ℕ) (j : Shape) (c : List ℕ) (h : Shape) (e : List ℕ) : Type 0 where
  pub uppers : AtEntries s g (λ p z q. uppers_of s g c p z q ≤ uppers_of s g e p z q)
  pub lowers_from : has_lowers j ≡ true → has_lowers h ≡ true
  pub lowers : has_lowers j ≡ true → AtEntries s g (λ p z q. lowers_of s g e p z q ≤ lowers_of s g c p z q)
  pub means_kept : has_means h ≡ true → has_means j ≡ true
  pub means : has_means h ≡ true → AtRows s g (λ p z. means_of s g j c p z ≤ means_of s g h e p z)
