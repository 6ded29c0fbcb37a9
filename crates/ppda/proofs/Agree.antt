-- Two certificates of one model never contradict each other (request A.5): no lower of the one is above the upper of the other. By mission point 3 a lower l
-- beside its upper u is at most the chance and (1 − m)^k times u, for every k, and the chance is at most the other upper w; so l is at most w and (1 − m)^k
-- times u, for every k, and (1 − m)^k times u falls below 1.
use Prim.Native.Nat.{ℕ, zero, suc, ◌+◌, ◌*◌, ◌^◌, ◌≤◌, ◌<◌}
use native.Mathlib.Nat.{le_of_mul-le-mul_left, mul-le-mul_left, mul-le-mul_right, one-le-pow, pow-le-pow_left, pow-zero, pow-succ', zero-lt-suc}
use native.Mathlib.Omega.{arith}
use mathlib.Core.List.{List}
use mathlib.Core.Logic.{◌⊎◌, inl, inr}
use Rattle.walks.specs.Order.{AtEntries}
use Rattle.walks.proofs.Numbers.{less_or_not}
use Rattle.ppda.specs.Rules.{Rule, IsModel}
use Rattle.ppda.specs.Chances.{chance}
use Rattle.ppda.specs.Equations.{Vector}
use Rattle.ppda.specs.Margin.{margin, whole, kept}
use Rattle.ppda.specs.Bounds.{Uppers, Lowers, steps_of}
use Rattle.ppda.proofs.Upper.{power_positive, upper_holds}
use Rattle.ppda.proofs.Margin.{kept_below_whole}
use Rattle.ppda.proofs.Lower.{lower_holds}

-- ---- powers of a smaller number fall behind

-- c^k·(c + k) ≤ c·(c + 1)^k.
bernoulli : (c k : ℕ) → c ^ k * (c + k) ≤ c * suc c ^ k
bernoulli c zero = simp pow-zero (omega arith)
bernoulli c (suc k) = simp pow-succ' (omega (arith, mul-le-mul_left (suc c) (bernoulli c k)))

-- Where c is below h, some power of h is above that of c times u.
outgrows : (c h u : ℕ) → c < h → (k : ℕ) × (c ^ k * u < h ^ k)
outgrows zero h u less = (1, rw (pow-succ' 0 0, pow-succ' h 0, pow-zero h) (omega arith))
outgrows (suc c) h u less = (suc c * u, omega (arith, scaled, one-le-pow (suc c * u) (suc c) (zero-lt-suc c), pow-le-pow_left less (suc c * u)))
  where
    scaled : suc c ^ (suc c * u) * u + suc c ^ (suc c * u) ≤ suc (suc c) ^ (suc c * u)
    scaled = le_of_mul-le-mul_left {k = suc c} (omega (arith, bernoulli (suc c) (suc c * u))) (zero-lt-suc c)

-- A number that is at most another and (c/h)^k times a third, for every k, is at most the other.
vanishes : (c h l u w : ℕ) → c < h → ((k : ℕ) → l * h ^ k ≤ w * h ^ k + c ^ k * u) → l ≤ w
vanishes c h l u w less every = go (less_or_not w l)
  where
    go : (w < l) ⊎ (l ≤ w) → l ≤ w
    go (inr le) = le
    go (inl above) =
        let (k, falls) = outgrows c h u less in
        absurd (omega (arith, every k, mul-le-mul_right (h ^ k) above))

-- ---- certificates

-- l·e·w ≤ x·d·w + c·u·e and x·d ≤ v·e: e is the scale of the chance x.
without_chance : (l e w x d c u v : ℕ) → 0 < e → l * e * w ≤ x * d * w + c * u * e → x * d ≤ v * e → l * w ≤ v * w + c * u
without_chance l e w x d c u v he lower upper =
    le_of_mul-le-mul_left {k = e} (omega (arith, mul-le-mul_right w upper)) he

module _ (m : List Rule) (s g : ℕ) (model : IsModel s g m) where
  -- A lower beside its own uppers is at most any uppers of the model.
  pub lower_under_upper : (u l v : Vector) → Uppers m s g u → Lowers m s g u l → Uppers m s g v → AtEntries s g (λ p z q. l p z q ≤ v p z q)
  lower_under_upper u l v uppers lowers others p z q hp hz hq =
      let a = margin m s g u in
      vanishes (kept a) (whole a) (l p z q) (u p z q) (v p z q) (kept_below_whole a)
      (λ k. without_chance (l p z q) (65536 ^ steps_of k) (whole a ^ k) (chance m (steps_of k) p z q) (2 ^ 20) (kept a ^ k) (u p z q) (v p z q)
      (power_positive (steps_of k))
      ((lower_holds m s g u l model uppers lowers p z q hp hz hq).above_zero k)
      (upper_holds m s g v model others p z q hp hz hq (steps_of k)))
