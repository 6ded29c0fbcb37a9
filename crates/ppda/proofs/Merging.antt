-- What is merged of two certificates of one model is a certificate again (request A.5): f and the mean steps' right side grow with their numbers, so that
-- smaller uppers and mean steps, and larger lowers, keep their inequalities; no lower of the one is above the upper of the other (`Agree`); and the margin
-- is no smaller than the smaller of the two, since a share falls where f grows.
use Prim.Native.Nat.{ℕ, ◌*◌, ◌≤◌, ◌<◌, min}
use native.Mathlib.Nat.{le_trans, le_refl, le-min, max-le, add-le-add, mul-le-mul, mul-le-mul_left, mul-le-mul_right}
use native.Mathlib.Omega.{arith}
use mathlib.Core.Bool.{true}
use mathlib.Core.List.{List}
use mathlib.Core.Logic.{◌⊎◌, inl, inr}
use mathlib.Core.Path.{◌≡◌}
use Rattle.walks.specs.Order.{AtRows, AtEntries}
use Rattle.ppda.specs.Units.{chance_unit, step_unit, sum_unit}
use Rattle.ppda.specs.Rules.{Rule, Push, nothing, one, two, pushed, Below, IsModel}
use Rattle.ppda.specs.Equations.{Vector, RowVector, through, f, steps_through, mean_side}
use Rattle.ppda.specs.Live.{is_live, alive}
use Rattle.ppda.specs.Margin.{share, share_at, margin}
use Rattle.ppda.specs.Bounds.{Uppers, Lowers, Means, Certificate}
use Rattle.ppda.specs.Merging.{smaller, larger, smaller_rows}
use Rattle.walks.proofs.Sums.{sum_to_mono}
use Rattle.walks.proofs.Numbers.{less_or_not, min_either, max_either, div_grows}
use Rattle.ppda.proofs.Rows.{row_mono}
use Rattle.ppda.proofs.Margin.{margin_le_top, margin_le_share, margin_greatest}
use Rattle.ppda.proofs.Agree.{lower_under_upper}

-- v ≤ u at every entry, and the same of rows.
abbrev pub AtMost : ℕ → ℕ → Vector → Vector → Type 0
AtMost s g v u = AtEntries s g (λ p z q. v p z q ≤ u p z q)

abbrev pub AtMostRows : ℕ → ℕ → RowVector → RowVector → Type 0
AtMostRows s g r t = AtRows s g (λ p z. r p z ≤ t p z)

module _ (m : List Rule) (s g : ℕ) (model : IsModel s g m) where
  -- ---- both sides grow with their numbers

  through_mono : (d : ℕ) (v u : Vector) → AtMost s g v u → (r : ℕ) (a : Push) (q : ℕ) → r < s → Below g (pushed a) → q < s
      → through s d v r a q ≤ through s d u r a q
  through_mono d v u le r nothing q hr ha hq = le_refl _
  through_mono d v u le r (one y) q hr ha hq = mul-le-mul_left d (le r y q hr ha.0 hq)
  through_mono d v u le r (two y x) q hr ha hq =
      sum_to_mono _ _ s (λ t ht. mul-le-mul (le r y t hr ha.0 ht) (le t x q ht ha.1.0 hq))

  pub f_mono : (d : ℕ) (v u : Vector) → AtMost s g v u → (p z q : ℕ) → q < s → f m s d v p z q ≤ f m s d u p z q
  unfolding f
  f_mono d v u le p z q hq =
      row_mono m p z _ _ (λ r i. let k = model.rule r i in through_mono d v u le r.target r.push q k.target k.push hq)

  steps_mono : (d : ℕ) (v u : Vector) (r t : RowVector) → AtMost s g v u → AtMostRows s g r t → (k : ℕ) (a : Push) → k < s → Below g (pushed a)
      → steps_through s d v r k a ≤ steps_through s d u t k a
  steps_mono d v u r t le rows k nothing hk ha = le_refl _
  steps_mono d v u r t le rows k (one y) hk ha = mul-le-mul_left d (rows k y hk ha.0)
  steps_mono d v u r t le rows k (two y x) hk ha =
      add-le-add (mul-le-mul_left d (rows k y hk ha.0))
      (sum_to_mono _ _ s (λ i hi. mul-le-mul (le k y i hk ha.0 hi) (rows i x hi ha.1.0)))

  pub mean_side_mono : (d h : ℕ) (v u : Vector) (r t : RowVector) → AtMost s g v u → AtMostRows s g r t
      → (p z : ℕ) → mean_side m s d h v r p z ≤ mean_side m s d h u t p z
  unfolding mean_side
  mean_side_mono d h v u r t le rows p z =
      add-le-add (le_refl _)
      (row_mono m p z _ _ (λ k i. let x = model.rule k i in steps_mono d v u r t le rows k.target k.push x.target x.push))

  -- ---- the merged numbers are at least as sharp as both

  pub smaller_left : (u v : Vector) → AtMost s g (smaller u v) u
  smaller_left u v p z q hp hz hq = omega arith

  pub smaller_right : (u v : Vector) → AtMost s g (smaller u v) v
  smaller_right u v p z q hp hz hq = omega arith

  pub larger_left : (l k : Vector) → AtMost s g l (larger l k)
  larger_left l k p z q hp hz hq = omega arith

  pub larger_right : (l k : Vector) → AtMost s g k (larger l k)
  larger_right l k p z q hp hz hq = omega arith

  pub rows_left : (r t : RowVector) → AtMostRows s g (smaller_rows r t) r
  rows_left r t p z hp hz = omega arith

  pub rows_right : (r t : RowVector) → AtMostRows s g (smaller_rows r t) t
  rows_right r t p z hp hz = omega arith

  -- ---- each block

  -- Smaller uppers keep what uppers kept (24).
  pub uppers_merged_lem : (u v : Vector) → Uppers m s g u → Uppers m s g v → Uppers m s g (smaller u v)
  uppers_merged_lem u v first second p z q hp hz hq =
      min_either (λ n. f m s chance_unit (smaller u v) p z q ≤ n * sum_unit) (u p z q) (v p z q)
      (le_trans (f_mono chance_unit _ u (smaller_left u v) p z q hq) (first p z q hp hz hq))
      (le_trans (f_mono chance_unit _ v (smaller_right u v) p z q hq) (second p z q hp hz hq))

  -- Strictly where both are strict.
  pub strict_merged : (u v : Vector) (p z q : ℕ) → q < s
      → f m s chance_unit u p z q < u p z q * sum_unit → f m s chance_unit v p z q < v p z q * sum_unit
      → f m s chance_unit (smaller u v) p z q < smaller u v p z q * sum_unit
  strict_merged u v p z q hq first second =
      min_either (λ n. f m s chance_unit (smaller u v) p z q < n * sum_unit) (u p z q) (v p z q)
      (omega (arith, f_mono chance_unit _ u (smaller_left u v) p z q hq, first))
      (omega (arith, f_mono chance_unit _ v (smaller_right u v) p z q hq, second))

  -- Larger lowers keep what lowers kept (26).
  pub larger_keeps : (l k : Vector) (p z q : ℕ) → q < s
      → l p z q * sum_unit ≤ f m s chance_unit l p z q → k p z q * sum_unit ≤ f m s chance_unit k p z q
      → larger l k p z q * sum_unit ≤ f m s chance_unit (larger l k) p z q
  larger_keeps l k p z q hq first second =
      max_either (λ n. n * sum_unit ≤ f m s chance_unit (larger l k) p z q) (l p z q) (k p z q)
      (le_trans first (f_mono chance_unit l _ (larger_left l k) p z q hq))
      (le_trans second (f_mono chance_unit k _ (larger_right l k) p z q hq))

  -- The larger lower is at most the smaller upper (25).
  pub below_merged : (u l v k : Vector) → Uppers m s g u → Lowers m s g u l → Uppers m s g v → Lowers m s g v k → AtMost s g (larger l k) (smaller u v)
  below_merged u l v k first lowers second lowers₂ p z q hp hz hq =
      max-le
      (le-min (lowers p z q hp hz hq).below (lower_under_upper m s g model u l v first lowers second p z q hp hz hq))
      (le-min (lower_under_upper m s g model v k u second lowers₂ first p z q hp hz hq) (lowers₂ p z q hp hz hq).below)

  pub lowers_merged_lem : (u l v k : Vector) → Uppers m s g u → Lowers m s g u l → Uppers m s g v → Lowers m s g v k
      → Lowers m s g (smaller u v) (larger l k)
  lowers_merged_lem u l v k first lowers second lowers₂ p z q hp hz hq =
      let a = lowers p z q hp hz hq in
      let b = lowers₂ p z q hp hz hq in
      record {
        lower = larger_keeps l k p z q hq a.lower b.lower;
        below = below_merged u l v k first lowers second lowers₂ p z q hp hz hq;
        range = omega (arith, a.range);
        strict = λ live. strict_merged u v p z q hq (a.strict live) (b.strict live);
        dead = λ dead. let e = a.dead dead in omega (arith, e);
      }

  -- Mean steps beside smaller uppers, and the smaller of two (27).
  pub means_beside : (u v : Vector) (r : RowVector) → AtMost s g v u → Means m s g u r → Means m s g v r
  means_beside u v r le means p z hp hz =
      le_trans (mean_side_mono chance_unit step_unit v u r r le (λ p z hp hz. le_refl _) p z) (means p z hp hz)

  pub means_merged_lem : (u : Vector) (r t : RowVector) → Means m s g u r → Means m s g u t → Means m s g u (smaller_rows r t)
  means_merged_lem u r t first second p z hp hz =
      min_either (λ n. mean_side m s chance_unit step_unit u (smaller_rows r t) p z ≤ n * sum_unit) (r p z) (t p z)
      (le_trans (mean_side_mono chance_unit step_unit u u _ r (λ p z q hp hz hq. le_refl _) (rows_left r t) p z) (first p z hp hz))
      (le_trans (mean_side_mono chance_unit step_unit u u _ t (λ p z q hp hz hq. le_refl _) (rows_right r t) p z) (second p z hp hz))

  pub certificate_merged : (u l v k : Vector) (r t : RowVector) → Certificate m s g u l r → Certificate m s g v k t
      → Certificate m s g (smaller u v) (larger l k) (smaller_rows r t)
  certificate_merged u l v k r t first second = record {
    uppers = uppers_merged_lem u v first.uppers second.uppers;
    lowers = lowers_merged_lem u l v k first.uppers first.lowers second.uppers second.lowers;
    means = means_merged_lem (smaller u v) r t (means_beside u (smaller u v) r (smaller_left u v) first.means)
        (means_beside v (smaller u v) t (smaller_right u v) second.means);
  }

  -- ---- the margin

  share_falls : (u x y : ℕ) → x ≤ y → share u y ≤ share u x
  unfolding share
  share_falls u x y le = div_grows _ _ (u * sum_unit) (mul-le-mul_right chance_unit (omega arith))

  -- The margin of the smaller uppers is at least the smaller of the two margins.
  pub margin_merged : (u v : Vector) → min (margin m s g u) (margin m s g v) ≤ margin m s g (smaller u v)
  unfolding share_at
  margin_merged u v =
      margin_greatest m s g (smaller u v) _ (omega (arith, margin_le_top m s g u))
      (λ p z q hp hz hq live. go p z q hp hz hq live (less_or_not (u p z q) (v p z q)))
    where
      of_one : (w : Vector) (p z q : ℕ) → p < s → z < g → q < s → is_live (alive m s g p z q) ≡ true → AtMost s g (smaller u v) w
          → smaller u v p z q ≡ w p z q → margin m s g w ≤ share (smaller u v p z q) (f m s chance_unit (smaller u v) p z q)
      of_one w p z q hp hz hq live le e =
          rw e
          (le_trans (rw live at (margin_le_share m s g w p z q hp hz hq))
          (share_falls (w p z q) _ _ (f_mono chance_unit (smaller u v) w le p z q hq)))

      go : (p z q : ℕ) → p < s → z < g → q < s → is_live (alive m s g p z q) ≡ true → (u p z q < v p z q) ⊎ (v p z q ≤ u p z q)
          → min (margin m s g u) (margin m s g v) ≤ share (smaller u v p z q) (f m s chance_unit (smaller u v) p z q)
      go p z q hp hz hq live (inl le) = le_trans (omega arith) (of_one u p z q hp hz hq live (smaller_left u v) (omega arith))
      go p z q hp hz hq live (inr le) = le_trans (omega arith) (of_one v p z q hp hz hq live (smaller_right u v) (omega arith))
