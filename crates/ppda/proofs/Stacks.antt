-- The chance of emptying one stack over another: it is at most, and within more steps at least, the sum over the state between of
-- the product of the two chances.
use Prim.Native.Nat.{ℕ, zero, suc, ◌+◌, ◌*◌, ◌^◌, ◌≤◌, ◌<◌, zero-le}
use native.Mathlib.Nat.{le_refl, le_trans, le_of_eq, zero-add, zero-mul, mul-zero, one-mul, mul_assoc, mul_left_comm, suc-add, pow-zero, pow-succ', mul-le-mul_left}
use native.Mathlib.Omega.{arith}
use mathlib.Core.Path.{◌≡◌, sym, ap, ◌∙◌, fun_ext}
use mathlib.Core.List.{List, [], ◌∷◌, ◌++◌, append_assoc}
use Rattle.walks.specs.Sums.{sum_to, In}
use Rattle.ppda.specs.Rules.{Rule, over_row, pushed, Below}
use Rattle.ppda.specs.Chances.{chance_from}
use Rattle.walks.proofs.Sums.{sum_to_mono, sum_to_zero, sum_to_mul, sum_to_pick}
use Rattle.ppda.proofs.Rows.{row_mono, row_mul, row_swap_mul}
use Rattle.ppda.proofs.Steps.{chance_zero, chance_empty, chance_step}

pub below_append : (g : ℕ) (α β : List ℕ) → Below g α → Below g β → Below g (α ++ β)
below_append g [] β a b = b
below_append g (z ∷ α) β a b = (a.0, below_append g α β a.1 b)

module _ (m : List Rule) where
  grows_empty : (n p q : ℕ) → 65536 * chance_from m n p [] q ≤ chance_from m (suc n) p [] q
  grows_empty n p q = simp (chance_empty m, pow-succ') (omega arith)

  -- One step more loses no run.
  pub chance_grows : (n p : ℕ) (σ : List ℕ) (q : ℕ) → 65536 * chance_from m n p σ q ≤ chance_from m (suc n) p σ q
  chance_grows zero p [] q = grows_empty 0 p q
  chance_grows (suc n) p [] q = grows_empty (suc n) p q
  chance_grows zero p (z ∷ σ) q = simp (chance_zero m) zero-le
  chance_grows (suc n) p (z ∷ σ) q =
      simp (chance_step m, ← row_mul m p z) (row_mono m p z _ _ (λ r i. chance_grows n r.target (pushed r.push ++ σ) q))

  pub chance_grows_by : (k n p : ℕ) (σ : List ℕ) (q : ℕ) → 65536 ^ k * chance_from m n p σ q ≤ chance_from m (k + n) p σ q
  chance_grows_by zero n p σ q = simp (pow-zero, one-mul, zero-add) (le_refl _)
  chance_grows_by (suc k) n p σ q =
      simp (pow-succ', suc-add, mul_assoc) (le_trans (mul-le-mul_left 65536 (chance_grows_by k n p σ q)) (chance_grows (k + n) p σ q))

module _ (m : List Rule) (s : ℕ) where
  -- From p with the stack α: emptying α within n steps in some state t below s, times k t.
  unfoldable pub followed : ℕ → ℕ → List ℕ → (ℕ → ℕ) → ℕ
  followed n p α k = sum_to (λ t. chance_from m n p α t * k t) s

  pub followed_zero : (p z : ℕ) (α : List ℕ) (k : ℕ → ℕ) → followed 0 p (z ∷ α) k ≡ 0
  unfolding followed
  followed_zero p z α k =
      ap (λ h. sum_to h s) (fun_ext (λ t. ap (λ c. c * k t) (chance_zero m p t z α) ∙ zero-mul (k t))) ∙ sum_to_zero s

  pub followed_empty : (n p : ℕ) (k : ℕ → ℕ) → p < s → followed n p [] k ≡ 65536 ^ n * k p
  unfolding followed
  followed_empty n p k here =
      ap (λ h. sum_to h s) (fun_ext (λ t. ap (λ c. c * k t) (chance_empty m n p t) ∙ mul_assoc (65536 ^ n) _ _))
      ∙ sum_to_mul (65536 ^ n) _ s
      ∙ ap (λ c. 65536 ^ n * c) (sum_to_pick k p s here)

  pub followed_step : (n p z : ℕ) (α : List ℕ) (k : ℕ → ℕ)
      → followed (suc n) p (z ∷ α) k ≡ over_row m p z (λ r. followed n r.target (pushed r.push ++ α) k)
  unfolding followed
  followed_step n p z α k = ap (λ h. sum_to h s) (fun_ext (λ t. ap (λ c. c * k t) (chance_step m n p z α t))) ∙ row_swap_mul m p z _ _ s

  pub followed_scaled : (n p : ℕ) (α : List ℕ) (c : ℕ) (k l : ℕ → ℕ) → ((t : ℕ) → t < s → c * k t ≤ l t)
      → c * followed n p α k ≤ followed n p α l
  unfolding followed
  followed_scaled n p α c k l e =
      le_trans (le_of_eq (sym (sum_to_mul c _ s)))
      (sum_to_mono _ _ s (λ t b. le_trans (le_of_eq (mul_left_comm c _ _)) (mul-le-mul_left (chance_from m n p α t) (e t b))))

  -- From p with α over β: emptying α within n steps, and β from there within k.
  abbrev pub between : ℕ → ℕ → ℕ → List ℕ → List ℕ → ℕ → ℕ
  between n k p α β q = followed n p α (λ t. chance_from m k t β q)

  module _ (targets : (r : Rule) → In r m → r.target < s) where
    split_empty : (n p : ℕ) (β : List ℕ) (q : ℕ) → p < s → 65536 ^ n * chance_from m n p β q ≤ between n n p [] β q
    split_empty n p β q here = le_of_eq (sym (followed_empty n p _ here))

    -- Within n steps in all, each of the two parts takes at most n.
    pub chance_split : (n p : ℕ) (α β : List ℕ) (q : ℕ) → p < s
        → 65536 ^ n * chance_from m n p (α ++ β) q ≤ between n n p α β q
    chance_split zero p [] β q here = split_empty 0 p β q here
    chance_split (suc n) p [] β q here = split_empty (suc n) p β q here
    chance_split zero p (z ∷ α) β q here = simp (chance_zero m, mul-zero) zero-le
    chance_split (suc n) p (z ∷ α) β q here =
        rw (chance_step m n p z (α ++ β) q, pow-succ', mul_assoc, followed_step n p z α _, ← row_mul m p z (65536 ^ n) _, ← row_mul m p z 65536 _)
        (row_mono m p z _ _
        (λ r i. le_trans
        (mul-le-mul_left 65536
        (rw (← append_assoc (pushed r.push) α β) (chance_split n r.target (pushed r.push ++ α) β q (targets r i))))
        (followed_scaled n r.target (pushed r.push ++ α) 65536 _ _ (λ t b. chance_grows m n t β q))))

    join_empty : (n k p : ℕ) (β : List ℕ) (q : ℕ) → p < s → between n k p [] β q ≤ chance_from m (n + k) p β q
    join_empty n k p β q here = le_trans (le_of_eq (followed_empty n p _ here)) (chance_grows_by m n k p β q)

    -- Within n steps for the one and k for the other, n + k are enough for both.
    pub chance_join : (n k p : ℕ) (α β : List ℕ) (q : ℕ) → p < s → between n k p α β q ≤ chance_from m (n + k) p (α ++ β) q
    chance_join zero k p [] β q here = join_empty 0 k p β q here
    chance_join (suc n) k p [] β q here = join_empty (suc n) k p β q here
    chance_join zero k p (z ∷ α) β q here = le_trans (le_of_eq (followed_zero p z α _)) zero-le
    chance_join (suc n) k p (z ∷ α) β q here =
        rw (followed_step n p z α _, suc-add, chance_step m (n + k) p z (α ++ β) q)
        (row_mono m p z _ _
        (λ r i. rw (← append_assoc (pushed r.push) α β) (chance_join n k r.target (pushed r.push ++ α) β q (targets r i))))
