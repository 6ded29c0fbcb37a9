-- Sums over runs by their first step. The chance equals its one-step recursion, so a reader may trust either; the counted runs have one too.
use Prim.Native.Nat.{ℕ, zero, suc, ◌+◌, ◌-◌, ◌*◌, ◌^◌}
use native.Mathlib.Nat.{add-zero, zero-add, add-mul, mul-add, zero-mul, mul-zero, mul-one, one-mul, mul_assoc, suc-sub-suc, sub-zero}
use native.Mathlib.Omega.{arith}
use mathlib.Core.Path.{◌≡◌, refl, sym, ap, ap₂, ◌∙◌, fun_ext}
use mathlib.Core.Bool.{Bool, true, false}
use mathlib.Core.List.{List, [], ◌∷◌, ◌++◌}
use mathlib.Core.Option.{Option, none, some}
use lib.Dec.{eqb}
use Rattle.walks.specs.Sums.{bit, sum, sum_to}
use Rattle.ppda.specs.Rules.{Rule, fits, over_row, pushed}
use Rattle.walks.specs.Lists.{lists}
use Rattle.ppda.specs.Runs.{Config, at, after, weigh, over_runs, over_runs_within}
use Rattle.ppda.specs.Chances.{returned, under_way, chance_from, chance_by_step, counted}
use Rattle.walks.proofs.Sums.{sum_cong, sum_zero, sum_mul, sum_add, sum_map, sum_flat_map, sum_to_cong, sum_to_zero, sum_to_add, sum_to_front}
use Rattle.ppda.proofs.Rows.{row_cong, row_add, row_mul, row_swap}

-- ---- sums over all lists of j rules

module _ (m : List Rule) where
  -- No list of rules, and where it leads.
  pub runs_zero : (h : List Rule → Option Config → ℕ) (p : ℕ) (σ : List ℕ) → over_runs h m 0 p σ ≡ h [] (some (at p σ))
  unfolding over_runs sum lists weigh after
  runs_zero h p σ = omega arith

  module _ (h : List Rule → Option Config → ℕ) (lost : (l : List Rule) → h l none ≡ 0) where
    -- The sum over lists of j + 1 rules, by the first rule.
    runs_split : (j p : ℕ) (σ : List ℕ)
        → over_runs h m (suc j) p σ ≡ sum (λ r. sum (λ l. weigh (r ∷ l) * h (r ∷ l) (after p σ (r ∷ l))) (lists m j)) m
    unfolding over_runs lists
    runs_split j p σ = sum_flat_map _ _ m ∙ sum_cong _ _ m (λ r i. sum_map _ _ (lists m j))

    -- On an empty stack no run goes on.
    pub runs_empty : (j p : ℕ) → over_runs h m (suc j) p [] ≡ 0
    unfolding after
    runs_empty j p =
        runs_split j p []
        ∙ sum_cong _ (λ r. 0) m (λ r i. sum_cong _ (λ l. 0) (lists m j) (λ l k. ap (λ n. weigh (r ∷ l) * n) (lost (r ∷ l)) ∙ mul-zero (weigh (r ∷ l))) ∙ sum_zero (lists m j))
        ∙ sum_zero m

    begun : (p z : ℕ) (σ : List ℕ) (r : Rule) (l : List Rule) (b : Bool) → fits r p z ≡ b
        → weigh (r ∷ l) * h (r ∷ l) (after p (z ∷ σ) (r ∷ l))
        ≡ bit b * (r.weight * (weigh l * h (r ∷ l) (after r.target (pushed r.push ++ σ) l)))
    unfolding weigh after
    begun p z σ r l true e = rw e (mul_assoc r.weight (weigh l) _ ∙ sym (one-mul _))
    begun p z σ r l false e = rw e (ap (λ n. r.weight * weigh l * n) (lost (r ∷ l)) ∙ mul-zero (r.weight * weigh l) ∙ sym (zero-mul _))

    -- A run that begins in state p with z on top begins with a rule of row (p, z).
    pub runs_step : (j p z : ℕ) (σ : List ℕ)
        → over_runs h m (suc j) p (z ∷ σ) ≡ over_row m p z (λ r. over_runs (λ l. h (r ∷ l)) m j r.target (pushed r.push ++ σ))
    unfolding over_row over_runs
    runs_step j p z σ =
        runs_split j p (z ∷ σ)
        ∙ sum_cong _ _ m
        (λ r i. sum_cong _ _ (lists m j) (λ l k. begun p z σ r l (fits r p z) refl)
        ∙ sum_mul (bit (fits r p z)) _ (lists m j)
        ∙ ap (λ n. bit (fits r p z) * n)
        (sum_mul r.weight (λ l. weigh l * h (r ∷ l) (after r.target (pushed r.push ++ σ) l)) (lists m j)))

    -- The same three laws for runs of at most n steps.
    pub within_empty : (n p : ℕ) → over_runs_within h m n p [] ≡ 65536 ^ n * h [] (some (at p []))
    unfolding over_runs_within
    within_empty n p =
        sum_to_front _ n
        ∙ ap₂ ◌+◌ (ap₂ (λ a b. 65536 ^ a * b) (sub-zero n) (runs_zero h p []))
        (sum_to_cong _ (λ j. 0) n (λ j b. ap (λ k. 65536 ^ (n - suc j) * k) (runs_empty j p) ∙ mul-zero _) ∙ sum_to_zero n)
        ∙ add-zero _

    pub within_step : (n p z : ℕ) (σ : List ℕ) → h [] (some (at p (z ∷ σ))) ≡ 0
        → over_runs_within h m (suc n) p (z ∷ σ)
        ≡ over_row m p z (λ r. over_runs_within (λ l. h (r ∷ l)) m n r.target (pushed r.push ++ σ))
    unfolding over_runs_within
    within_step n p z σ none_yet =
        sum_to_front _ (suc n)
        ∙ ap₂ ◌+◌ (ap (λ b. 65536 ^ (suc n - 0) * b) (runs_zero h p (z ∷ σ) ∙ none_yet) ∙ mul-zero _)
        (sum_to_cong _ _ (suc n) (λ j b. ap₂ (λ a c. 65536 ^ a * c) (suc-sub-suc n j) (runs_step j p z σ) ∙ sym (row_mul m p z _ _)))
        ∙ zero-add _
        ∙ row_swap m p z _ (suc n)

  pub within_zero : (h : List Rule → Option Config → ℕ) (p : ℕ) (σ : List ℕ) → over_runs_within h m 0 p σ ≡ h [] (some (at p σ))
  unfolding over_runs_within sum_to
  within_zero h p σ = zero-add _ ∙ one-mul _ ∙ runs_zero h p σ

  runs_add : (h k : List Rule → Option Config → ℕ) (j p : ℕ) (σ : List ℕ)
      → over_runs (λ l c. h l c + k l c) m j p σ ≡ over_runs h m j p σ + over_runs k m j p σ
  unfolding over_runs
  runs_add h k j p σ = sum_cong _ _ (lists m j) (λ l i. mul-add (weigh l) (h l (after p σ l)) (k l (after p σ l))) ∙ sum_add _ _ (lists m j)

  within_add : (h k : List Rule → Option Config → ℕ) (n p : ℕ) (σ : List ℕ)
      → over_runs_within (λ l c. h l c + k l c) m n p σ ≡ over_runs_within h m n p σ + over_runs_within k m n p σ
  unfolding over_runs_within
  within_add h k n p σ =
      sum_to_cong _ _ (suc n) (λ j b. ap (λ x. 65536 ^ (n - j) * x) (runs_add h k j p σ) ∙ mul-add (65536 ^ (n - j)) _ _)
      ∙ sum_to_add _ _ (suc n)

add_add_add_comm : (a b c d : ℕ) → a + b + (c + d) ≡ a + c + (b + d)
add_add_add_comm a b c d = omega arith

-- ---- the chance by its first step

module _ (m : List Rule) where
  pub chance_zero : (p q z : ℕ) (σ : List ℕ) → chance_from m 0 p (z ∷ σ) q ≡ 0
  unfolding chance_from
  chance_zero p q z σ = within_zero m _ p (z ∷ σ)

  pub chance_empty : (n p q : ℕ) → chance_from m n p [] q ≡ 65536 ^ n * bit (eqb p q)
  unfolding chance_from
  chance_empty n p q = within_empty m _ (λ l. refl) n p

  pub chance_step : (n p z : ℕ) (σ : List ℕ) (q : ℕ)
      → chance_from m (suc n) p (z ∷ σ) q ≡ over_row m p z (λ r. chance_from m n r.target (pushed r.push ++ σ) q)
  unfolding chance_from
  chance_step n p z σ q = within_step m _ (λ l. refl) n p z σ refl

  pub chance_by_step_lem : (n p : ℕ) (σ : List ℕ) (q : ℕ) → chance_from m n p σ q ≡ chance_by_step m n p σ q
  unfolding chance_by_step
  chance_by_step_lem zero p [] q = chance_empty 0 p q ∙ one-mul _
  chance_by_step_lem zero p (z ∷ σ) q = chance_zero p q z σ
  chance_by_step_lem (suc n) p [] q = chance_empty (suc n) p q
  chance_by_step_lem (suc n) p (z ∷ σ) q =
      chance_step n p z σ q ∙ row_cong m p z _ _ (λ r i. chance_by_step_lem n r.target (pushed r.push ++ σ) q)

-- ---- the counted runs by their first step

module _ (m : List Rule) where
  pub counted_zero : (count : List Rule → ℕ) (p : ℕ) (σ : List ℕ) → counted count m 0 p σ ≡ count []
  unfolding counted
  counted_zero count p σ = ap₂ ◌+◌ (within_zero m _ p σ) (runs_zero m _ p σ) ∙ go σ
    where
      go : (τ : List ℕ) → count [] * returned (some (at p τ)) + count [] * under_way (some (at p τ)) ≡ count []
      go [] = omega arith
      go (z ∷ τ) = omega arith

  pub counted_empty : (count : List Rule → ℕ) (n p : ℕ) → counted count m n p [] ≡ 65536 ^ n * count []
  unfolding counted
  counted_empty count n p =
      ap₂ ◌+◌ (within_empty m _ (λ l. mul-zero (count l)) n p ∙ ap (λ c. 65536 ^ n * c) (mul-one (count []))) (no_way n) ∙ add-zero _
    where
      no_way : (k : ℕ) → over_runs (λ l c. count l * under_way c) m k p [] ≡ 0
      no_way zero = runs_zero m _ p [] ∙ mul-zero (count [])
      no_way (suc k) = runs_empty m _ (λ l. mul-zero (count l)) k p

  pub counted_step : (count : List Rule → ℕ) (n p z : ℕ) (σ : List ℕ)
      → counted count m (suc n) p (z ∷ σ)
      ≡ over_row m p z (λ r. counted (λ l. count (r ∷ l)) m n r.target (pushed r.push ++ σ))
  unfolding counted
  counted_step count n p z σ =
      ap₂ ◌+◌ (within_step m _ (λ l. mul-zero (count l)) n p z σ (mul-zero (count []))) (runs_step m _ (λ l. mul-zero (count l)) n p z σ)
      ∙ sym (row_add m p z _ _)

  -- What the runs count adds up.
  pub counted_add : (a b : List Rule → ℕ) (n p : ℕ) (σ : List ℕ)
      → counted (λ l. a l + b l) m n p σ ≡ counted a m n p σ + counted b m n p σ
  unfolding counted
  counted_add a b n p σ =
      ap₂ ◌+◌ (ap (λ h. over_runs_within h m n p σ) (fun_ext (λ l. fun_ext (λ c. add-mul (a l) (b l) (returned c)))) ∙ within_add m _ _ n p σ)
      (ap (λ h. over_runs h m n p σ) (fun_ext (λ l. fun_ext (λ c. add-mul (a l) (b l) (under_way c)))) ∙ runs_add m _ _ n p σ)
      ∙ add_add_add_comm _ _ _ _
