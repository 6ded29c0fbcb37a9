-- Mission point 3, the lowers (after document 001, Theorem 5): every chance within 2^k − 1 steps is at least the lower
-- less (1 − m)^k times the upper. With c = 1 − m the stronger l ≤ (1 − c^k)·chance + c^k·u goes by induction on k: l ≤ f(l), f is convex
-- between the chance and u, f of the chance within n steps is at most the chance within 2n + 1, and f(u) ≤ c·u.
use Prim.Native.Nat.{ℕ, zero, suc, ◌+◌, ◌-◌, ◌*◌, ◌^◌, ◌≤◌, ◌<◌}
use native.Mathlib.Nat.{add-le-add, le_refl, le_trans, le_of_eq, le_dest, le_intro, le_of_mul-le-mul_left, le_of_lt, mul-le-mul, mul-le-mul_left, mul-le-mul_right, mul-pos, one-le-pow, pow-zero, pow-succ', zero-add}
use native.Mathlib.Omega.{arith}
use mathlib.Core.Path.{◌≡◌, refl, ap}
use mathlib.Core.List.{List}
use lib.Dec.{lit<}
use lib.Pow.{pow-add, pow_pos}
use Rattle.walks.specs.Order.{AtEntries}
use Rattle.ppda.specs.Rules.{Rule, Push, nothing, one, two, pushed, Below, IsModel}
use Rattle.ppda.specs.Chances.{chance}
use Rattle.ppda.specs.Equations.{Vector, through, f}
use Rattle.ppda.specs.Margin.{margin, whole, kept}
use Rattle.ppda.specs.Bounds.{Uppers, Lowers, LowerBy, LowersHold, steps_of}
use Rattle.walks.proofs.Sums.{sum_to_combined}
use Rattle.ppda.proofs.Rows.{row_combined}
use Rattle.ppda.proofs.Equations.{Under, f_grows, f_le_chance}
use Rattle.ppda.proofs.Upper.{chances_under}
use Rattle.ppda.proofs.Margin.{f_le_kept, kept_below_whole}

-- ---- f is convex between v ≤ u

-- v counts 1/e and u counts 1/d: (b·v + c·u) / (b + c), which counts 1/((b + c)·e·d).
mix : (b c e d : ℕ) → Vector → Vector → Vector
mix b c e d v u p z q = b * (v p z q * d) + c * (u p z q * e)

-- The difference of the two sides is b·c times the product of the two gaps.
convex : (b c x₁ x₂ u₁ u₂ : ℕ) → x₁ ≤ u₁ → x₂ ≤ u₂ → (b * x₁ + c * u₁) * (b * x₂ + c * u₂) ≤ (b + c) * (b * (x₁ * x₂) + c * (u₁ * u₂))
convex b c x₁ x₂ u₁ u₂ h₁ h₂ =
    let g₁ = le_dest h₁ in
    let g₂ = le_dest h₂ in
    rw (← g₁.1, ← g₂.1) (gaps b c x₁ x₂ g₁.0 g₂.0)
  where
    gaps : (b c x₁ x₂ a₁ a₂ : ℕ)
        → (b * x₁ + c * (x₁ + a₁)) * (b * x₂ + c * (x₂ + a₂)) ≤ (b + c) * (b * (x₁ * x₂) + c * ((x₁ + a₁) * (x₂ + a₂)))
    gaps b c x₁ x₂ a₁ a₂ = omega arith

module _ (m : List Rule) (s g : ℕ) (model : IsModel s g m) where
  module _ (b c e d : ℕ) (v u : Vector) (le : Under s g e d v u) where
    through_convex : (r : ℕ) (a : Push) (q : ℕ) → r < s → Below g (pushed a) → q < s
        → through s ((b + c) * (e * d)) (mix b c e d v u) r a q
        ≤ (b + c) * b * (d * d) * through s e v r a q + (b + c) * c * (e * e) * through s d u r a q
    unfolding mix
    through_convex r nothing q hr ha hq = le_of_eq (omega arith)
    through_convex r (one y) q hr ha hq = le_of_eq (omega arith)
    through_convex r (two y x) q hr ha hq =
        sum_to_combined ((b + c) * b * (d * d)) ((b + c) * c * (e * e)) _ _ _ s
        (λ t ht. le_trans
        (convex b c (v r y t * d) (v t x q * d) (u r y t * e) (u t x q * e) (le r y t hr ha.0 ht) (le t x q ht ha.1.0 hq))
        (le_of_eq (omega arith)))

    -- f((b·v + c·u)/(b + c)) ≤ (b·f(v) + c·f(u))/(b + c).
    f_convex : (p z q : ℕ) → q < s
        → f m s ((b + c) * (e * d)) (mix b c e d v u) p z q
        ≤ (b + c) * b * (d * d) * f m s e v p z q + (b + c) * c * (e * e) * f m s d u p z q
    unfolding f
    f_convex p z q hq =
        row_combined m p z ((b + c) * b * (d * d)) ((b + c) * c * (e * e)) _ _ _
        (λ r i. let k = model.rule r i in through_convex r.target r.push q k.target k.push hq)

-- ---- one more round

-- l ≤ f(l) ≤ f(mix) ≤ the mix of f(chance) = x and f(u) = y, with common factors taken out. e is the scale of the chance, d that of the
-- bounds, w = b + c; i is f(l) and j is f of the mix.
lower_le_mix : (b c w e d l i j x y : ℕ) → 0 < d → 0 < w → l * (65536 * d) ≤ i → i * (w * (e * d) * (w * (e * d))) ≤ j * (d * d)
    → j ≤ w * b * (d * d) * x + w * c * (e * e) * y
    → l * (d * (w * (65536 * (e * e)))) ≤ b * (d * d) * x + c * (e * e) * y
lower_le_mix b c w e d l i j x y hd hw below grows convex =
    le_of_mul-le-mul_left {k = w} (le_trans (le_trans (le_of_eq (omega arith)) once) (le_trans convex (le_of_eq (omega arith)))) hw
  where
    once : l * (65536 * d) * (w * e * (w * e)) ≤ j
    once = le_of_mul-le-mul_left {k = d * d} (omega (arith, mul-le-mul_right (w * (e * d) * (w * (e * d))) below)) (mul-pos hd hd)

-- And f(u) ≤ (k/h)·u. n is the square of the chance's scale.
round : (b c w n d l u x y h k : ℕ) → 0 < d → l * (d * (w * (65536 * n))) ≤ b * (d * d) * x + c * n * y → y * h ≤ k * (u * (65536 * d))
    → l * (h * w * (65536 * n)) ≤ h * b * (x * d) + k * c * (u * (65536 * n))
round b c w n d l u x y h k hd main by-margin =
    le_of_mul-le-mul_left {k = d} (omega (arith, mul-le-mul_left h main, mul-le-mul_left (c * n) by-margin)) hd

-- h·b + (h − k)·c is the next b.
next_weight : (b c w h k : ℕ) → b + c ≡ w → k ≤ h → (b' : ℕ) × (b' + k * c ≡ h * w) × (h * b ≤ b')
next_weight b c w h k e le =
    let (a, ea) = le_dest le in
    (h * b + a * c, omega (arith, ap (λ n. n * c) ea, ap (λ n. h * n) e), omega arith)

pub steps_suc : (k : ℕ) → steps_of (suc k) ≡ suc (steps_of k + steps_of k)
unfolding steps_of
steps_suc k = omega (arith, pow-succ' 2 k, pow_pos k)

pub scale_suc : (k : ℕ) → 65536 ^ steps_of (suc k) ≡ 65536 * (65536 ^ steps_of k * 65536 ^ steps_of k)
scale_suc k = rw (steps_suc k, pow-succ', pow-add) refl

-- l ≤ (b·chance + c^k·u) / h^k at every entry, within 2^k − 1 steps.
abbrev Between : List Rule → ℕ → ℕ → Vector → Vector → (h c k b : ℕ) → Type 0
Between m s g u l h c k b =
    (p z q : ℕ) → p < s → z < g → q < s
    → l p z q * (h ^ k * 65536 ^ steps_of k) ≤ b * (chance m (steps_of k) p z q * 2 ^ 20) + c ^ k * (u p z q * 65536 ^ steps_of k)

module _ (m : List Rule) (s g : ℕ) (u l : Vector) (model : IsModel s g m) (uppers : Uppers m s g u) (lowers : Lowers m s g u l)
    (h c : ℕ) (less : c < h) (by-margin : (p z q : ℕ) → p < s → z < g → q < s → f m s (2 ^ 20) u p z q * h ≤ c * (u p z q * 2 ^ 36)) where
  one_more : (k b b' : ℕ) → b + c ^ k ≡ h ^ k → h * b ≤ b' → Between m s g u l h c k b → Between m s g u l h c (suc k) b'
  unfolding mix
  one_more k b b' e le between p z q hp hz hq =
      rw (scale_suc k, steps_suc k)
      (simp pow-succ'
      (le_trans (round b (c ^ k) (h ^ k) (scale * scale) (2 ^ 20) (l p z q) (u p z q) fp fu h c (lit< tt) main (by-margin p z q hp hz hq))
      (add-le-add (mul-le-mul le (mul-le-mul_right (2 ^ 20) (f_le_chance m s g model (steps_of k) p z q))) (le_refl _))))
    where
      scale : ℕ
      scale = 65536 ^ steps_of k

      fp : ℕ
      fp = f m s scale (chance m (steps_of k)) p z q

      fu : ℕ
      fu = f m s (2 ^ 20) u p z q

      mixed : Vector
      mixed = mix b (c ^ k) scale (2 ^ 20) (chance m (steps_of k)) u

      below : Under s g (2 ^ 20) (h ^ k * (scale * 2 ^ 20)) l mixed
      below p z q hp hz hq = omega (arith, mul-le-mul_right (2 ^ 20) (between p z q hp hz hq))

      fmix : f m s (h ^ k * (scale * 2 ^ 20)) mixed p z q
          ≤ h ^ k * b * (2 ^ 20 * 2 ^ 20) * fp + h ^ k * c ^ k * (scale * scale) * fu
      fmix =
          rw e at
          (f_convex m s g model b (c ^ k) scale (2 ^ 20) (chance m (steps_of k)) u (chances_under m s g u model uppers (steps_of k)) p z q hq)

      main : l p z q * (2 ^ 20 * (h ^ k * (65536 * (scale * scale)))) ≤ b * (2 ^ 20 * 2 ^ 20) * fp + c ^ k * (scale * scale) * fu
      main =
          lower_le_mix b (c ^ k) (h ^ k) scale (2 ^ 20) (l p z q) (f m s (2 ^ 20) l p z q)
          (f m s (h ^ k * (scale * 2 ^ 20)) mixed p z q) fp fu (lit< tt) (one-le-pow k h (omega arith)) (lowers p z q hp hz hq).lower
          (f_grows m s g model (2 ^ 20) (h ^ k * (scale * 2 ^ 20)) l mixed below p z q hq) fmix

  lower_between : (k : ℕ) → (b : ℕ) × (b + c ^ k ≡ h ^ k) × Between m s g u l h c k b
  unfolding steps_of
  lower_between zero = (0, simp (pow-zero, zero-add), λ p z q hp hz hq. simp (pow-zero) (omega (arith, (lowers p z q hp hz hq).below)))
  lower_between (suc k) =
      let (b, e, between) = lower_between k in
      let (b', e', le) = next_weight b (c ^ k) (h ^ k) h c e (le_of_lt less) in
      (b', simp pow-succ' e', one_more k b b' e le between)

-- b ≤ h^k.
drop_weight : (b w k l e d v u : ℕ) → b ≤ w → l * (w * e) ≤ b * (v * d) + k * (u * e) → l * e * w ≤ v * d * w + k * u * e
drop_weight b w k l e d v u le h = omega (arith, mul-le-mul_right (v * d) le)

module _ (m : List Rule) (s g : ℕ) (u l : Vector) (model : IsModel s g m) (uppers : Uppers m s g u) (lowers : Lowers m s g u l) where
  -- With an m that is never 0.
  by_kept : AtEntries s g (λ p z q. LowerBy m p z q (l p z q) (u p z q) (kept (margin m s g u)) (whole (margin m s g u)))
  by_kept p z q hp hz hq k =
      let a = margin m s g u in
      let (b, e, between) =
      lower_between m s g u l model uppers lowers (whole a) (kept a) (kept_below_whole a) (f_le_kept m s g u l uppers lowers) k in
      drop_weight b (whole a ^ k) (kept a ^ k) (l p z q) (65536 ^ steps_of k) (2 ^ 20) (chance m (steps_of k) p z q) (u p z q)
      (le_intro b (kept a ^ k) e) (between p z q hp hz hq)

  -- As document 01 has it. Where the margin is 0, l ≤ u says it; else the two are the same.
  by_margin_shown : (a : ℕ) → margin m s g u ≡ a → AtEntries s g (λ p z q. LowerBy m p z q (l p z q) (u p z q) (2 ^ 20 - a) (2 ^ 20))
  unfolding kept
  by_margin_shown zero e p z q hp hz hq k = omega (arith, mul-le-mul_right (65536 ^ steps_of k * (2 ^ 20) ^ k) (lowers p z q hp hz hq).below)
  by_margin_shown (suc a) e p z q hp hz hq k = rw e at (by_kept p z q hp hz hq k)

  -- Where the margin is 0, m is 1/2^57.
  pub lower_without_margin : margin m s g u ≡ 0 → AtEntries s g (λ p z q. LowerBy m p z q (l p z q) (u p z q) (2 ^ 57 - 1) (2 ^ 57))
  unfolding kept
  lower_without_margin e p z q hp hz hq k = rw e at (by_kept p z q hp hz hq k)

  pub lower_holds : LowersHold m s g u l (margin m s g u)
  lower_holds p z q hp hz hq =
      record { as_shown = by_margin_shown (margin m s g u) refl p z q hp hz hq; above_zero = by_kept p z q hp hz hq }
