-- f, the mean steps' right side and the margin read no number but those of the model's entries and rows.
use Prim.Native.Nat.{ℕ, ◌+◌, ◌*◌, ◌<◌}
use mathlib.Core.List.{List}
use mathlib.Core.Path.{◌≡◌, refl, ap, ap₂}
use Rattle.ppda.specs.Units.{weight_unit, chance_unit}
use Rattle.ppda.specs.Rules.{Rule, Push, nothing, one, two, pushed, Below, IsModel}
use Rattle.ppda.specs.Equations.{Vector, RowVector, Same, SameRows, through, f, steps_through, mean_side}
use Rattle.ppda.specs.Live.{is_live, alive}
use Rattle.ppda.specs.Margin.{share_at, margin}
use Rattle.walks.proofs.Sums.{sum_to_cong, least_to_cong}
use Rattle.ppda.proofs.Rows.{row_cong}

module _ (s g d : ℕ) (v u : Vector) (same : Same s g v u) where
  through_same : (r : ℕ) (a : Push) (q : ℕ) → r < s → Below g (pushed a) → q < s → through s d v r a q ≡ through s d u r a q
  through_same r nothing q hr ha hq = refl
  through_same r (one y) q hr ha hq = ap (λ n. d * n) (same r y q hr ha.0 hq)
  through_same r (two y x) q hr ha hq =
      sum_to_cong _ _ s (λ t ht. ap₂ ◌*◌ (same r y t hr ha.0 ht) (same t x q ht ha.1.0 hq))

  steps_same : (e k : RowVector) → SameRows s g e k → (r : ℕ) (a : Push) → r < s → Below g (pushed a)
      → steps_through s d v e r a ≡ steps_through s d u k r a
  steps_same e k rows r nothing hr ha = refl
  steps_same e k rows r (one y) hr ha = ap (λ n. d * n) (rows r y hr ha.0)
  steps_same e k rows r (two y x) hr ha =
      ap₂ (λ first rest. d * first + rest) (rows r y hr ha.0)
      (sum_to_cong _ _ s (λ t ht. ap₂ ◌*◌ (same r y t hr ha.0 ht) (rows t x ht ha.1.0)))

module _ {m : List Rule} {s g : ℕ} (model : IsModel s g m) where
  pub f_same : (d : ℕ) (v u : Vector) → Same s g v u → (p z q : ℕ) → q < s → f m s d v p z q ≡ f m s d u p z q
  unfolding f
  f_same d v u same p z q hq =
      row_cong m p z _ _ (λ r i. let k = model.rule r i in through_same s g d v u same r.target r.push q k.target k.push hq)

  pub mean_side_same : (d h : ℕ) (v u : Vector) (e k : RowVector) → Same s g v u → SameRows s g e k
      → (p z : ℕ) → mean_side m s d h v e p z ≡ mean_side m s d h u k p z
  unfolding mean_side
  mean_side_same d h v u e k same rows p z =
      ap (λ n. weight_unit * (d * h) + n)
      (row_cong m p z _ _ (λ r i. let t = model.rule r i in steps_same s g d v u same e k rows r.target r.push t.target t.push))

  pub margin_same : (v u : Vector) → Same s g v u → margin m s g v ≡ margin m s g u
  unfolding margin
  margin_same v u same =
      least_to_cong chance_unit _ _ s (λ p hp. least_to_cong chance_unit _ _ g (λ z hz. least_to_cong chance_unit _ _ s (λ q hq.
      ap₂ (share_at (is_live (alive m s g p z q))) (same p z q hp hz hq) (f_same chance_unit v u same p z q hq))))
