-- Mission point 3, the mean steps (document 001, Theorems 7 and 8): where a row's figure is at least the right side, every mean of steps
-- counted to n is at most the figure. By induction on n, with the mean of one stack over another bounded as in `Stacks`.
use Prim.Native.Nat.{ℕ, zero, suc, ◌+◌, ◌*◌, ◌^◌, ◌≤◌, ◌<◌, zero-le}
use native.Mathlib.Nat.{le_refl, add-le-add, le_of_mul-le-mul_left, mul-le-mul, mul-le-mul_left, mul-le-mul_right, one-mul, mul-zero, zero-mul, mul-add, pow-succ'}
use native.Mathlib.Numerals.{one-add}
use native.Mathlib.Omega.{arith}
use mathlib.Core.Path.{◌≡◌, sym, ap, ◌∙◌, fun_ext}
use mathlib.Core.List.{List, [], ◌∷◌, ◌++◌, append_assoc}
use lib.Dec.{lit<}
use lib.ListN.{length}
use Rattle.walks.specs.Sums.{In}
use Rattle.walks.specs.Order.{AtRows}
use Rattle.ppda.specs.Rules.{Rule, Push, nothing, one, two, over_row, pushed, Below, IsModel}
use Rattle.ppda.specs.Chances.{counted, mean}
use Rattle.ppda.specs.Equations.{Vector, RowVector, steps_through, mean_side}
use Rattle.ppda.specs.Bounds.{Uppers, Means, MeansHold}
use Rattle.walks.proofs.Sums.{sum_to_scaled}
use Rattle.ppda.proofs.Rows.{row_mono, row_cong, row_add, row_mul, row_combined, row_scaled}
use Rattle.ppda.proofs.Steps.{counted_zero, counted_empty, counted_step, counted_add}
use Rattle.ppda.proofs.Mass.{after_below, row_of_power, mass_whole_from}
use Rattle.ppda.proofs.Upper.{power_positive, chances_under}
use Rattle.ppda.proofs.Stacks.{below_append, followed, followed_empty, followed_step, followed_scaled}

-- The mean of steps from state p with the stack σ.
abbrev pub mean_from : List Rule → ℕ → ℕ → List ℕ → ℕ
mean_from m n p σ = counted (λ l. length l) m n p σ

module _ (m : List Rule) (s g : ℕ) (model : IsModel s g m) where
  -- The mean by its first step: 1, and the mean of what follows.
  pub mean_step : (n p z : ℕ) (σ : List ℕ) → p < s → z < g → Below g σ
      → mean_from m (suc n) p (z ∷ σ) ≡ 65536 ^ suc n + over_row m p z (λ r. mean_from m n r.target (pushed r.push ++ σ))
  mean_step n p z σ hp hz b =
      counted_step m (λ l. length l) n p z σ
      ∙ row_cong m p z _ (λ r. 65536 ^ n + mean_from m n r.target (pushed r.push ++ σ)) (λ r i. each r i)
      ∙ row_add m p z (λ r. 65536 ^ n) _
      ∙ ap (λ k. k + over_row m p z (λ r. mean_from m n r.target (pushed r.push ++ σ)))
      (row_of_power m s g model n p z hp hz)
    where
      each : (r : Rule) → In r m
          → counted (λ l. suc (length l)) m n r.target (pushed r.push ++ σ) ≡ 65536 ^ n + mean_from m n r.target (pushed r.push ++ σ)
      each r i =
          ap (λ h. counted h m n r.target (pushed r.push ++ σ)) (fun_ext (λ l. sym (one-add (length l))))
          ∙ counted_add m (λ l. 1) (λ l. length l) n r.target (pushed r.push ++ σ)
          ∙ ap (λ k. k + mean_from m n r.target (pushed r.push ++ σ))
          (mass_whole_from m s g model n r.target (pushed r.push ++ σ) (model.rule r i).target (after_below m s g model r i σ b))

  pub mean_zero : (p : ℕ) (σ : List ℕ) → mean_from m 0 p σ ≡ 0
  mean_zero p σ = counted_zero m (λ l. length l) p σ

  pub mean_empty : (n p : ℕ) → mean_from m n p [] ≡ 0
  mean_empty n p = counted_empty m (λ l. length l) n p ∙ mul-zero (65536 ^ n)

  -- One step more takes nothing from the mean.
  pub mean_grows : (n p : ℕ) (σ : List ℕ) → p < s → Below g σ → 65536 * mean_from m n p σ ≤ mean_from m (suc n) p σ
  mean_grows zero p σ hp b = simp mean_zero zero-le
  mean_grows (suc n) p [] hp b = simp mean_empty (le_refl 0)
  mean_grows (suc n) p (z ∷ σ) hp b =
      rw (mean_step n p z σ hp b.0 b.1, mean_step (suc n) p z σ hp b.0 b.1, mul-add, ← row_mul m p z 65536 _, pow-succ' 65536 (suc n))
      (add-le-add (le_refl _)
      (row_mono m p z _ _ (λ r i. mean_grows n r.target (pushed r.push ++ σ) (model.rule r i).target (after_below m s g model r i σ b.1))))

  split_empty : (n p : ℕ) (β : List ℕ) → p < s
      → 65536 ^ n * mean_from m n p β ≤ 65536 ^ n * mean_from m n p [] + followed m s n p [] (λ t. mean_from m n t β)
  split_empty n p β hp = rw (followed_empty m s n p _ hp) (omega arith)

  -- From p with α over β: the mean of α, and of β from the state in which α was emptied.
  pub mean_split : (n p : ℕ) (α β : List ℕ) → p < s → Below g α → Below g β
      → 65536 ^ n * mean_from m n p (α ++ β) ≤ 65536 ^ n * mean_from m n p α + followed m s n p α (λ t. mean_from m n t β)
  mean_split zero p α β hp a b = simp (mean_zero, mul-zero) zero-le
  mean_split (suc n) p [] β hp a b = split_empty (suc n) p β hp
  mean_split (suc n) p (z ∷ α) β hp a b =
      rw (mean_step n p z (α ++ β) hp a.0 (below_append g α β a.1 b), mean_step n p z α hp a.0 a.1, followed_step m s n p z α _, pow-succ')
      (add_up (65536 ^ n) _ _ _ _ (main (λ r i. mean_split n r.target (pushed r.push ++ α) β (model.rule r i).target (after_below m s g model r i α a.1) b)) more)
    where
      add_up : (e x y w w' : ℕ) → e * x ≤ e * y + w → 65536 * w ≤ w' → 65536 * e * (65536 * e + x) ≤ 65536 * e * (65536 * e + y) + w'
      add_up e x y w w' h k = omega (arith, mul-le-mul_left 65536 h)

      rest : Rule → List ℕ → ℕ
      rest r σ = mean_from m n r.target (pushed r.push ++ σ)

      then : ℕ → Rule → ℕ
      then k r = followed m s n r.target (pushed r.push ++ α) (λ t. mean_from m k t β)

      main : ((r : Rule) → In r m → 65536 ^ n * mean_from m n r.target ((pushed r.push ++ α) ++ β) ≤ 65536 ^ n * rest r α + then n r)
          → 65536 ^ n * over_row m p z (λ r. rest r (α ++ β)) ≤ 65536 ^ n * over_row m p z (λ r. rest r α) + over_row m p z (then n)
      main each =
          rw (← row_mul m p z (65536 ^ n) _, ← one-mul (over_row m p z (then n)))
          (row_combined m p z (65536 ^ n) 1 _ _ _ (λ r i. rw (← append_assoc (pushed r.push) α β, one-mul) (each r i)))

      more : 65536 * over_row m p z (then n) ≤ over_row m p z (then (suc n))
      more =
          rw (← row_mul m p z 65536 _)
          (row_mono m p z _ _ (λ r i. followed_scaled m s n r.target (pushed r.push ++ α) 65536 _ _ (λ t ht. mean_grows n t β ht b)))

-- ---- the figures

-- e is 65536 ^ n, d and h are the scales of the chances and of the figures.
figure_step : (e d h x y r : ℕ) → 0 < d → x * (h * d) ≤ y * e → 65536 * (d * h) + y ≤ r * (65536 * d)
    → (65536 * e + x) * h ≤ r * (65536 * e)
figure_step e d h x y r hd step side =
    le_of_mul-le-mul_left {k = d} (omega (arith, mul-le-mul_right e side)) hd

two_step : (e d h x a c y b : ℕ) → 0 < e → e * x ≤ e * a + c → a * h ≤ y * e → c * (h * d) ≤ b * (e * e) → x * (h * d) ≤ (d * y + b) * e
two_step e d h x a c y b he split first second =
    le_of_mul-le-mul_left {k = e} (omega (arith, mul-le-mul_right (h * d) split, mul-le-mul_right (d * e) first)) he

-- At every row, for one n after the other.
means_under : (m : List Rule) (s g : ℕ) (u : Vector) (r : RowVector) → IsModel s g m → Uppers m s g u → Means m s g u r
    → (n : ℕ) → AtRows s g (λ p z. mean m n p z * 2 ^ 8 ≤ r p z * 65536 ^ n)
unfolding followed mean_side
means_under m s g u r model uppers means zero p z hp hz = simp (mean_zero m s g model, zero-mul) zero-le
means_under m s g u r model uppers means (suc n) p z hp hz =
    rw (mean_step m s g model n p z [] hp hz tt, pow-succ' 65536 n)
    (figure_step (65536 ^ n) (2 ^ 20) (2 ^ 8) _ _ (r p z) (lit< tt)
    (row_scaled m p z (2 ^ 8 * 2 ^ 20) (65536 ^ n) _ _
    (λ k i. each (means_under m s g u r model uppers means n) k.target k.push (model.rule k i).target (model.rule k i).push))
    (means p z hp hz))
  where
    each : ((p z : ℕ) → p < s → z < g → mean m n p z * 2 ^ 8 ≤ r p z * 65536 ^ n)
        → (t : ℕ) (a : Push) → t < s → Below g (pushed a)
        → mean_from m n t (pushed a ++ []) * (2 ^ 8 * 2 ^ 20) ≤ steps_through s (2 ^ 20) u r t a * 65536 ^ n
    each ih t nothing ht b = rw (mean_empty m s g model n t) (omega arith)
    each ih t (one y) ht b = omega (arith, mul-le-mul_right (2 ^ 20) (ih t y ht b.0))
    each ih t (two y x) ht b =
        two_step (65536 ^ n) (2 ^ 20) (2 ^ 8) _ _ _ _ _ (power_positive n)
        (mean_split m s g model n t (y ∷ []) (x ∷ []) ht (b.0, tt) b.1) (ih t y ht b.0)
        (sum_to_scaled (2 ^ 8 * 2 ^ 20) (65536 ^ n * 65536 ^ n) _ _ s
        (λ k hk. omega (arith, mul-le-mul (chances_under m s g u model uppers n t y k ht b.0 hk) (ih k x hk b.1.0))))

pub mean_holds : (m : List Rule) (s g : ℕ) (u : Vector) (r : RowVector) → IsModel s g m → Uppers m s g u → Means m s g u r → MeansHold m s g r
mean_holds m s g u r model uppers means p z hp hz n = means_under m s g u r model uppers means n p z hp hz
