-- One stack over another, and a stack of two symbols, from the chances of each by itself (request A.1): the upper one is gone with step j, in some state t, and the lower one from there
-- within the steps that are left. For any n.
use Prim.Native.Nat.{ℕ, zero, suc, ◌+◌, ◌-◌, ◌*◌, ◌^◌, ◌≤◌, ◌<◌}
use native.Mathlib.Nat.{add-zero, zero-add, one-mul, zero-mul, mul-zero, mul_assoc, sub-zero, sub_self, suc-sub-suc, pow-succ', not-suc-le-zero, le_of_suc-le-suc}
use native.Mathlib.Omega.{arith}
use mathlib.Core.Path.{◌≡◌, refl, sym, ap, ap₂, ◌∙◌}
use mathlib.Core.List.{List, [], ◌∷◌, ◌++◌, append_assoc}
use lib.Dec.{eqb}
use lib.ListN.{length, length-append}
use Rattle.walks.specs.Sums.{bit, sum_to, In}
use Rattle.walks.specs.Order.{by_row}
use Rattle.walks.proofs.Sums.{sum_to_cong, sum_to_zero, sum_to_mul, sum_to_front, sum_to_pick}
use Rattle.walks.proofs.Places.{sum_to_rows}
use Rattle.ppda.specs.Rules.{Rule, over_row, pushed}
use Rattle.ppda.specs.Runs.{over_runs, over_runs_within}
use Rattle.ppda.specs.Chances.{returned_in, chance_from, chance}
use Rattle.ppda.proofs.Rows.{row_cong, row_const, row_swap, row_swap_mul}
use Rattle.ppda.proofs.Steps.{runs_zero, runs_empty, runs_step, chance_zero, chance_step}

-- A term for n + 1 steps, of which j are taken, is 65,536 times that for n.
term_later : (n j x : ℕ) → j < suc n → 65536 ^ (suc n - j) * x ≡ 65536 * (65536 ^ (n - j) * x)
term_later n j x l = let e : suc n - j ≡ suc (n - j) = omega arith in rw (e, pow-succ') (mul_assoc 65536 (65536 ^ (n - j)) x)

module _ (m : List Rule) where
  -- From p with the stack σ: the chance of emptying it in q with step n and no earlier, over 65536 ^ n.
  unfoldable pub exactly : ℕ → ℕ → List ℕ → ℕ → ℕ
  exactly n p σ q = over_runs (λ l c. returned_in q c) m n p σ

  pub exactly_zero : (p z : ℕ) (σ : List ℕ) (q : ℕ) → exactly 0 p (z ∷ σ) q ≡ 0
  unfolding exactly
  exactly_zero p z σ q = runs_zero m _ p (z ∷ σ)

  exactly_gone : (p q : ℕ) → exactly 0 p [] q ≡ bit (eqb p q)
  unfolding exactly
  exactly_gone p q = runs_zero m _ p []

  exactly_past : (n p q : ℕ) → exactly (suc n) p [] q ≡ 0
  unfolding exactly
  exactly_past n p q = runs_empty m _ (λ l. refl) n p

  exactly_step : (n p z : ℕ) (σ : List ℕ) (q : ℕ)
      → exactly (suc n) p (z ∷ σ) q ≡ over_row m p z (λ r. exactly n r.target (pushed r.push ++ σ) q)
  unfolding exactly
  exactly_step n p z σ q = runs_step m _ (λ l. refl) n p z σ

  -- Within n + 1 steps is within n steps, or with step n + 1.
  pub chance_last : (n p : ℕ) (σ : List ℕ) (q : ℕ) → chance_from m (suc n) p σ q ≡ 65536 * chance_from m n p σ q + exactly (suc n) p σ q
  unfolding chance_from over_runs_within exactly sum_to
  chance_last n p σ q =
      ap₂ ◌+◌ (sum_to_cong _ _ (suc n) (λ j l. term_later n j _ l) ∙ sum_to_mul 65536 _ (suc n))
      (ap (λ k. 65536 ^ k * over_runs (λ l c. returned_in q c) m (suc n) p σ) (sub_self (suc n)) ∙ one-mul _)

  -- So the chance with step n alone is a difference of chances.
  pub exactly_is_difference : (n p : ℕ) (σ : List ℕ) (q : ℕ) {a b : ℕ} → 0 < n → a ≡ chance_from m n p σ q → b ≡ chance_from m (n - 1) p σ q
      → (65536 * b ≤ a) × (a - 65536 * b ≡ exactly n p σ q)
  exactly_is_difference zero p σ q some ea eb = absurd (not-suc-le-zero some)
  exactly_is_difference (suc n) p σ q {a} {b} some ea eb =
      let before : b ≡ chance_from m n p σ q = eb ∙ ap (λ k. chance_from m k p σ q) (suc-sub-suc n 0 ∙ sub-zero n) in
      (omega (arith, chance_last n p σ q), omega (arith, chance_last n p σ q))

  -- From p with y over x, term by term: y is gone with step j, in state t, and x from there in state q.
  abbrev pub pair_term : ℕ → ℕ → ℕ → ℕ → ℕ → ℕ → ℕ → ℕ
  pair_term n p y x q j t = exactly j p (y ∷ []) t * chance m (n - j) t x q

  -- Each symbol of the stack takes a step.
  pub chance_few : (n p : ℕ) (σ : List ℕ) (q : ℕ) → n < length σ → chance_from m n p σ q ≡ 0
  chance_few zero p [] q l = absurd (not-suc-le-zero l)
  chance_few (suc n) p [] q l = absurd (not-suc-le-zero l)
  chance_few zero p (z ∷ σ) q l = chance_zero m p q z σ
  chance_few (suc n) p (z ∷ σ) q l =
      chance_step m n p z σ q
      ∙ row_cong m p z _ (λ r. 0)
      (λ r i. chance_few n r.target (pushed r.push ++ σ) q (omega (arith, le_of_suc-le-suc l, length-append (pushed r.push) σ)))
      ∙ row_const m p z 0 ∙ zero-mul _

module _ (m : List Rule) (s : ℕ) (targets : (r : Rule) → In r m → r.target < s) where
  -- From p with α over β: α is gone with step j, in a state t below s, and β from there within the steps that are left of n.
  abbrev parted : ℕ → ℕ → List ℕ → List ℕ → ℕ → ℕ → ℕ
  parted n p α β q j = sum_to (λ t. exactly m j p α t * chance_from m (n - j) t β q) s

  parted_none : (n p : ℕ) (α β : List ℕ) (q j : ℕ) → ((t : ℕ) → exactly m j p α t ≡ 0) → parted n p α β q j ≡ 0
  parted_none n p α β q j none =
      sum_to_cong _ (λ t. 0) s (λ t l. ap (λ c. c * chance_from m (n - j) t β q) (none t) ∙ zero-mul _) ∙ sum_to_zero s

  -- An empty stack is gone with step 0, where it was.
  parts_empty : (n p : ℕ) (β : List ℕ) (q : ℕ) → p < s → chance_from m n p β q ≡ sum_to (parted n p [] β q) (suc n)
  parts_empty n p β q here =
      sym
      (sum_to_front _ n
      ∙ ap₂ ◌+◌
      (sum_to_cong _ (λ t. bit (eqb p t) * chance_from m n t β q) s (λ t l. ap₂ (λ c k. c * chance_from m k t β q) (exactly_gone m p t) (sub-zero n))
      ∙ sum_to_pick _ p s here)
      (sum_to_cong _ (λ j. 0) n (λ j l. parted_none n p [] β q (suc j) (λ t. exactly_past m j p t)) ∙ sum_to_zero n)
      ∙ add-zero _)

  parted_step : (n p z : ℕ) (α β : List ℕ) (q j : ℕ)
      → parted (suc n) p (z ∷ α) β q (suc j) ≡ over_row m p z (λ r. parted n r.target (pushed r.push ++ α) β q j)
  parted_step n p z α β q j =
      sum_to_cong _ _ s (λ t l. ap₂ (λ c k. c * chance_from m k t β q) (exactly_step m j p z α t) (suc-sub-suc n j))
      ∙ row_swap_mul m p z _ _ s

  -- For any two stacks.
  pub chance_parts : (n p : ℕ) (α β : List ℕ) (q : ℕ) → p < s → chance_from m n p (α ++ β) q ≡ sum_to (parted n p α β q) (suc n)
  chance_parts zero p [] β q here = parts_empty 0 p β q here
  chance_parts (suc n) p [] β q here = parts_empty (suc n) p β q here
  chance_parts zero p (z ∷ α) β q here =
      chance_zero m p q z (α ++ β)
      ∙ sym (sum_to_cong _ (λ j. 0) 1 (λ j l. let e : j ≡ 0 = omega arith in rw e (parted_none 0 p (z ∷ α) β q 0 (λ t. exactly_zero m p z α t))) ∙ sum_to_zero 1)
  chance_parts (suc n) p (z ∷ α) β q here =
      chance_step m n p z (α ++ β) q
      ∙ row_cong m p z _ _
      (λ r i. ap (λ σ. chance_from m n r.target σ q) (sym (append_assoc (pushed r.push) α β))
      ∙ chance_parts n r.target (pushed r.push ++ α) β q (targets r i))
      ∙ sym
      (sum_to_front _ (suc n)
      ∙ ap₂ ◌+◌ (parted_none (suc n) p (z ∷ α) β q 0 (λ t. exactly_zero m p z α t))
      (sum_to_cong _ _ (suc n) (λ j l. parted_step n p z α β q j) ∙ row_swap m p z _ (suc n))
      ∙ zero-add _)

  -- A stack of two symbols is gone within n steps: the sum over the steps of the first, fewer than n, and over the state between.
  pub chance_of_pair : (n p y x q : ℕ) → p < s → chance_from m n p (y ∷ x ∷ []) q ≡ sum_to (λ j. sum_to (pair_term m n p y x q j) s) n
  unfolding sum_to
  chance_of_pair n p y x q here =
      chance_parts n p (y ∷ []) (x ∷ []) q here
      ∙ ap (λ c. sum_to (parted n p (y ∷ []) (x ∷ []) q) n + c)
      (sum_to_cong _ (λ t. 0) s
      (λ t l. ap (λ k. exactly m n p (y ∷ []) t * chance m k t x q) (sub_self n) ∙ ap (λ c. exactly m n p (y ∷ []) t * c) (chance_zero m t q x []) ∙ mul-zero _)
      ∙ sum_to_zero s)
      ∙ add-zero _

  -- The same by one number for both: term k has k / s steps of the first and the state k % s between.
  pub chance_of_pair_by_number : (n p y x q : ℕ) → p < s → chance_from m n p (y ∷ x ∷ []) q ≡ sum_to (by_row s (pair_term m n p y x q)) (n * s)
  chance_of_pair_by_number n p y x q here = chance_of_pair n p y x q here ∙ sym (sum_to_rows n s (pair_term m n p y x q))
