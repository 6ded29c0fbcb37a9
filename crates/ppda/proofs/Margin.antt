-- The margin of the uppers bounds f(u) by kept/whole times u at every entry, and kept is below whole.
use Prim.Native.Nat.{ℕ, zero, suc, ◌+◌, ◌-◌, ◌*◌, ◌^◌, ◌≤◌, ◌<◌, zero-le}
use native.Mathlib.Nat.{le_trans, le-div_iff_mul-le, zero-mul}
use native.Mathlib.Omega.{arith}
use mathlib.Core.Bool.{Bool, true, false}
use mathlib.Core.Path.{◌≡◌, refl, ap}
use mathlib.Core.List.{List}
use lib.Dec.{lit<}
use Rattle.ppda.specs.Rules.{Rule}
use Rattle.ppda.specs.Equations.{Vector, f}
use Rattle.ppda.specs.Live.{is_live, alive}
use Rattle.ppda.specs.Margin.{share, share_at, margin, whole, kept}
use Rattle.ppda.specs.Bounds.{Uppers, Lowers, LowerAt}
use Rattle.walks.proofs.Sums.{least_to_le_top, least_to_le_term, least_to_greatest}

-- The m of point 3 is never 0: what is taken from the lower vanishes as k grows.
pub kept_below_whole : (a : ℕ) → kept a < whole a
unfolding kept
kept_below_whole zero = lit< tt
kept_below_whole (suc a) = omega arith

module _ (m : List Rule) (s g : ℕ) (u : Vector) where
  -- The margin is at most 2^20 and at most every live entry's share.
  pub margin_le_top : margin m s g u ≤ 2 ^ 20
  unfolding margin
  margin_le_top = least_to_le_top (2 ^ 20) _ s

  pub margin_le_share : (p z q : ℕ) → p < s → z < g → q < s
      → margin m s g u ≤ share_at (is_live (alive m s g p z q)) (u p z q) (f m s (2 ^ 20) u p z q)
  unfolding margin
  margin_le_share p z q hp hz hq =
      le_trans (least_to_le_term (2 ^ 20) _ s p hp) (le_trans (least_to_le_term (2 ^ 20) _ g z hz) (least_to_le_term (2 ^ 20) _ s q hq))

  -- The margin is the greatest such number.
  pub margin_greatest : (a : ℕ) → a ≤ 2 ^ 20
      → ((p z q : ℕ) → p < s → z < g → q < s → is_live (alive m s g p z q) ≡ true → a ≤ share (u p z q) (f m s (2 ^ 20) u p z q))
      → a ≤ margin m s g u
  unfolding margin share_at
  margin_greatest a top e =
      least_to_greatest (2 ^ 20) _ s a top
      (λ p hp. least_to_greatest (2 ^ 20) _ g a top
      (λ z hz. least_to_greatest (2 ^ 20) _ s a top (λ q hq. go p z q hp hz hq (is_live (alive m s g p z q)) refl)))
    where
      go : (p z q : ℕ) → p < s → z < g → q < s → (t : Bool) → is_live (alive m s g p z q) ≡ t
          → a ≤ share_at t (u p z q) (f m s (2 ^ 20) u p z q)
      go p z q hp hz hq true live = e p z q hp hz hq live
      go p z q hp hz hq false dead = top

-- x is u in 1/2^56, y is f(u). A share of at least a/2^20 leaves y at most the rest of x.
of_share : (a u y : ℕ) → 0 < u * 2 ^ 36 → a ≤ share u y → y ≤ u * 2 ^ 36 → y * 2 ^ 20 + a * (u * 2 ^ 36) ≤ u * 2 ^ 36 * 2 ^ 20
unfolding share
of_share a u y pos h le =
    let t : a * (u * 2 ^ 36) ≤ (u * 2 ^ 36 - y) * 2 ^ 20 = (le-div_iff_mul-le {k = u * 2 ^ 36} {x = a} {y = (u * 2 ^ 36 - y) * 2 ^ 20} pos).0 h in
    omega arith

-- What is left of x when a parts of w are taken.
rest : (w a k x y : ℕ) → k + a ≡ w → y * w + a * x ≤ x * w → y * w ≤ k * x
rest w a k x y e h = omega (arith, ap (λ n. x * n) e)

live_keeps : (a u y : ℕ) → a ≤ 2 ^ 20 → a ≤ share u y → y < u * 2 ^ 36 → u ≤ 2097152 → y * whole a ≤ kept a * (u * 2 ^ 36)
unfolding kept
live_keeps zero u y top h strict range = omega arith
live_keeps (suc a) u y top h strict range =
    rest (2 ^ 20) (suc a) (2 ^ 20 - suc a) (u * 2 ^ 36) y (omega arith) (of_share (suc a) u y (omega arith) h (omega arith))

dead_keeps : (a u y : ℕ) → u ≡ 0 → y ≤ u * 2 ^ 36 → y * whole a ≤ kept a * (u * 2 ^ 36)
dead_keeps a u y none h = let zero-y : y ≡ 0 = omega arith in rw (zero-y, zero-mul) zero-le

-- f(u) ≤ (1 − m)·u at every entry.
pub f_le_kept : (m : List Rule) (s g : ℕ) (u l : Vector) → Uppers m s g u → Lowers m s g u l → (p z q : ℕ) → p < s → z < g → q < s
    → f m s (2 ^ 20) u p z q * whole (margin m s g u) ≤ kept (margin m s g u) * (u p z q * 2 ^ 36)
unfolding share_at
f_le_kept m s g u l uppers lowers p z q hp hz hq = go (is_live (alive m s g p z q)) refl
  where
    this : LowerAt m s g u l p z q
    this = lowers p z q hp hz hq

    go : (t : Bool) → is_live (alive m s g p z q) ≡ t
        → f m s (2 ^ 20) u p z q * whole (margin m s g u) ≤ kept (margin m s g u) * (u p z q * 2 ^ 36)
    go true live =
        live_keeps (margin m s g u) (u p z q) (f m s (2 ^ 20) u p z q) (margin_le_top m s g u)
        (rw live at (margin_le_share m s g u p z q hp hz hq)) (this.strict live) (omega (arith, this.range))
    go false dead = dead_keeps (margin m s g u) (u p z q) (f m s (2 ^ 20) u p z q) (this.dead dead) (uppers p z q hp hz hq)
