-- Request A.7, how long until nearly all are back: every run takes a first step, and what has not returned within n steps takes n more at least, so that where every mean is at most the
-- figure r, runs of a chance of at most (r − 1)/n are still under way. All others have returned, since all runs together have the chance 1.
use Prim.Native.Nat.{ℕ, zero, suc, ◌+◌, ◌*◌, ◌^◌, ◌≤◌, ◌<◌}
use native.Mathlib.Nat.{le_refl, add-le-add, le_of_mul-le-mul_left, mul-le-mul_right, mul-pos, mul-one, one-mul, pow-succ'}
use native.Mathlib.Omega.{arith}
use mathlib.Core.Path.{◌≡◌, refl, sym, ap, ap₂, ◌∙◌, fun_ext}
use mathlib.Core.List.{List, [], ◌∷◌, ◌++◌}
use lib.Dec.{lit<}
use Rattle.walks.specs.Sums.{sum_to, In}
use Rattle.ppda.specs.Rules.{Rule, over_row, pushed, Below, IsModel}
use Rattle.ppda.specs.Runs.{over_runs, over_runs_within}
use Rattle.ppda.specs.Chances.{returned, under_way, chance_from, returned_within, counted}
use Rattle.ppda.specs.Bounds.{MeanHolds, AtLeastTail, TailHolds}
use Rattle.ppda.proofs.Rows.{row_cong, row_mono, row_mul}
use Rattle.ppda.proofs.Steps.{runs_zero, runs_empty, runs_step, within_zero, within_empty, within_step}
use Rattle.ppda.proofs.Stacks.{followed, followed_zero, followed_empty, followed_step}
use Rattle.ppda.proofs.Mass.{after_below, mass_whole_from}
use Rattle.ppda.proofs.Mean.{mean_from, mean_step}

-- ---- runs that have not returned

module _ (m : List Rule) where
  -- From state p with the stack σ: the chance of the runs of n steps that have not returned, over 65536 ^ n.
  unfoldable pub away_from : ℕ → ℕ → List ℕ → ℕ
  away_from n p σ = over_runs (λ l c. under_way c) m n p σ

  away_zero : (p z : ℕ) (σ : List ℕ) → away_from 0 p (z ∷ σ) ≡ 1
  unfolding away_from
  away_zero p z σ = runs_zero m _ p (z ∷ σ)

  away_empty : (n p : ℕ) → away_from n p [] ≡ 0
  unfolding away_from
  away_empty zero p = runs_zero m _ p []
  away_empty (suc n) p = runs_empty m _ (λ l. refl) n p

  away_step : (n p z : ℕ) (σ : List ℕ) → away_from (suc n) p (z ∷ σ) ≡ over_row m p z (λ r. away_from n r.target (pushed r.push ++ σ))
  unfolding away_from
  away_step n p z σ = runs_step m _ (λ l. refl) n p z σ

  -- What is counted after each rule of a row is counted after its first step.
  away_rest : (n p z : ℕ) (σ : List ℕ)
      → ((r : Rule) → In r m → suc n * (65536 * away_from n r.target (pushed r.push ++ σ)) ≤ mean_from m (suc n) r.target (pushed r.push ++ σ))
      → suc n * (65536 * over_row m p z (λ r. away_from n r.target (pushed r.push ++ σ))) ≤ over_row m p z (λ r. mean_from m (suc n) r.target (pushed r.push ++ σ))
  away_rest n p z σ each = rw (← row_mul m p z 65536 _, ← row_mul m p z (suc n) _) (row_mono m p z _ _ each)

-- a of e are under way after a step, which counts 1 for each, and x is what they count from there on.
one_step_more : (n a e x : ℕ) → suc n * (65536 * a) ≤ x → a ≤ e → suc (suc n) * (65536 * a) ≤ 65536 * e + x
one_step_more n a e x rest some = omega (arith, rest, some)

module _ (m : List Rule) (s g : ℕ) (model : IsModel s g m) where
  -- Who has returned has done so through some exit.
  by_exits : (n p : ℕ) (σ : List ℕ) → p < s → followed m s n p σ (λ q. 1) ≡ over_runs_within (λ l c. returned c) m n p σ
  by_exits zero p [] hp = followed_empty m s 0 p _ hp ∙ sym (within_zero m _ p [])
  by_exits zero p (z ∷ σ) hp = followed_zero m s p z σ _ ∙ sym (within_zero m _ p (z ∷ σ))
  by_exits (suc n) p [] hp = followed_empty m s (suc n) p _ hp ∙ sym (within_empty m _ (λ l. refl) (suc n) p)
  by_exits (suc n) p (z ∷ σ) hp =
      followed_step m s n p z σ _
      ∙ row_cong m p z _ _ (λ r i. by_exits n r.target (pushed r.push ++ σ) (model.rule r i).target)
      ∙ sym (within_step m _ (λ l. refl) n p z σ refl)

  exits_summed : (n p : ℕ) (σ : List ℕ) → p < s → sum_to (λ q. chance_from m n p σ q) s ≡ over_runs_within (λ l c. returned c) m n p σ
  unfolding followed
  exits_summed n p σ hp = ap (λ h. sum_to h s) (fun_ext (λ q. sym (mul-one (chance_from m n p σ q)))) ∙ by_exits n p σ hp

  -- The chances of a row's exits come to that of the runs that have returned, in whatever state.
  pub returned_by_exits : (n p z : ℕ) → p < s → returned_within m s n p z ≡ over_runs_within (λ l c. returned c) m n p (z ∷ [])
  returned_by_exits n p z hp = exits_summed n p (z ∷ []) hp

  -- Those that have returned, through whatever exit, and those that have not are all.
  pub all_runs : (n p : ℕ) (σ : List ℕ) → p < s → Below g σ → sum_to (λ q. chance_from m n p σ q) s + away_from m n p σ ≡ 65536 ^ n
  unfolding counted away_from
  all_runs n p σ hp b =
      ap₂ ◌+◌
      (exits_summed n p σ hp ∙ ap (λ h. over_runs_within h m n p σ) (fun_ext (λ l. fun_ext (λ c. sym (one-mul (returned c))))))
      (ap (λ h. over_runs h m n p σ) (fun_ext (λ l. fun_ext (λ c. sym (one-mul (under_way c))))))
      ∙ mass_whole_from m s g model n p σ hp b

  -- A run that has not returned within n steps counts n + 1, counted to n + 1.
  pub away_counted : (n p : ℕ) (σ : List ℕ) → p < s → Below g σ → suc n * (65536 * away_from m n p σ) ≤ mean_from m (suc n) p σ
  away_counted zero p [] hp b = rw (away_empty m 0 p) (omega arith)
  away_counted (suc n) p [] hp b = rw (away_empty m (suc n) p) (omega arith)
  away_counted zero p (z ∷ σ) hp b = rw (away_zero m p z σ, mean_step m s g model 0 p z σ hp b.0 b.1) (omega arith)
  away_counted (suc n) p (z ∷ σ) hp b =
      rw (away_step m n p z σ, mean_step m s g model (suc n) p z σ hp b.0 b.1, pow-succ' 65536 (suc n))
      (one_step_more n _ (65536 ^ suc n) _
      (away_rest m n p z σ (λ r i. away_counted n r.target (pushed r.push ++ σ) (model.rule r i).target (after_below m s g model r i σ b.1))) some)
    where
      some : over_row m p z (λ r. away_from m n r.target (pushed r.push ++ σ)) ≤ 65536 ^ suc n
      some = rw (← away_step m n p z σ) (omega (arith, all_runs (suc n) p (z ∷ σ) hp b))

  -- From a row, the first step of all is counted besides.
  first_counted : (n p z : ℕ) → p < s → z < g → 65536 ^ suc n + n * (65536 * away_from m n p (z ∷ [])) ≤ mean_from m (suc n) p (z ∷ [])
  first_counted zero p z hp hz = rw (mean_step m s g model 0 p z [] hp hz tt) (omega arith)
  first_counted (suc n) p z hp hz =
      rw (away_step m n p z [], mean_step m s g model (suc n) p z [] hp hz tt)
      (add-le-add (le_refl (65536 ^ suc (suc n)))
      (away_rest m n p z [] (λ r i. away_counted n r.target (pushed r.push ++ []) (model.rule r i).target (after_below m s g model r i [] tt))))

  -- ---- the tail

  module _ (p z r : ℕ) (hp : p < s) (hz : z < g) (means : MeanHolds m p z r) where
    whole : (n : ℕ) → returned_within m s n p z + away_from m n p (z ∷ []) ≡ 65536 ^ n
    whole n = all_runs n p (z ∷ []) hp (hz, tt)

    -- At most (r − 1)/n have not returned.
    few_away : (n : ℕ)
        → n * 2 ^ 8 * away_from m n p (z ∷ []) + 2 ^ 8 * (returned_within m s n p z + away_from m n p (z ∷ [])) ≤ r * (returned_within m s n p z + away_from m n p (z ∷ []))
    few_away n = rw (whole n) (go _ _ (65536 ^ n) (rw (pow-succ' 65536 n) at (first_counted n p z hp hz)) (rw (pow-succ' 65536 n) at (means (suc n))))
      where
        go : (a x e : ℕ) → 65536 * e + n * (65536 * a) ≤ x → x * 2 ^ 8 ≤ r * (65536 * e) → n * 2 ^ 8 * a + 2 ^ 8 * e ≤ r * e
        go a x e away mean = omega (arith, away, mean)

    -- "From what stands": where every mean is at most r, at least 1 − r/n have returned within n steps.
    pub tail_of_mean : TailHolds m s p z r
    tail_of_mean n = rw (← whole n) (omega (arith, few_away n))

    -- Sharper than request A.7 asks (decision 122): at least 1 − (r − 1)/n; and so 1 − r/(n + 1), and 1 − k/n for whole steps k of more than r − 1.
    pub tail_after_the_first : (n : ℕ) → n * 2 ^ 8 * 65536 ^ n + 2 ^ 8 * 65536 ^ n ≤ n * 2 ^ 8 * returned_within m s n p z + r * 65536 ^ n
    tail_after_the_first n = rw (← whole n) (omega (arith, few_away n))

    pub tail_one_later : (n : ℕ) → (n + 1) * 2 ^ 8 * 65536 ^ n ≤ (n + 1) * 2 ^ 8 * returned_within m s n p z + r * 65536 ^ n
    tail_one_later n = rw (← whole n) (omega (arith, few_away n))

    pub tail_rounded_down : (n k : ℕ) → r < (k + 1) * 2 ^ 8 → n * 2 ^ 8 * 65536 ^ n ≤ n * 2 ^ 8 * returned_within m s n p z + k * 2 ^ 8 * 65536 ^ n
    tail_rounded_down n k below = rw (← whole n) (omega (arith, few_away n, mul-le-mul_right (returned_within m s n p z + away_from m n p (z ∷ [])) below))

-- ---- what it says to who books n steps

-- Where n is at least r/(1 − share), the share a/(a + d) is back: booked 100 times the mean, 99/(99 + 1).
pub window_enough : (n c r a d : ℕ) → 0 < n → AtLeastTail n c r → r * (a + d) ≤ n * 2 ^ 8 * d → a * 65536 ^ n ≤ (a + d) * c
window_enough n c r a d some tail booked =
    le_of_mul-le-mul_left {k = n * 2 ^ 8} (go (65536 ^ n) tail) (mul-pos some (lit< tt))
  where
    go : (e : ℕ) → n * 2 ^ 8 * e ≤ n * 2 ^ 8 * c + r * e → n * 2 ^ 8 * (a * e) ≤ n * 2 ^ 8 * ((a + d) * c)
    go e h = omega (arith, mul-le-mul_right (a + d) h, mul-le-mul_right e booked)
