-- The total mass of the runs that the mean counts: where each row's weights sum to 65,536, the runs that return within n
-- steps and the runs of exactly n steps that have not returned have the chance 1 in all. So no chance is above 1.
use Prim.Native.Nat.{ℕ, zero, suc, ◌*◌, ◌^◌, ◌≤◌, ◌<◌, zero-le}
use native.Mathlib.Nat.{le_trans, le_of_eq, mul-le-mul_left, mul_comm, mul-one, mul-zero, zero-mul, pow-succ'}
use native.Mathlib.Omega.{arith}
use mathlib.Core.Path.{◌≡◌, refl, sym, ap, ◌∙◌}
use mathlib.Core.Bool.{Bool, true, false}
use mathlib.Core.List.{List, [], ◌∷◌, ◌++◌}
use lib.Dec.{eqb, ltb}
use borrow.Author.Tests.{ltb-true, ltb-false}
use Rattle.walks.specs.Sums.{bit, In}
use Rattle.walks.proofs.Sums.{sum_cong, sum_zero}
use Rattle.ppda.specs.Rules.{Rule, fits, over_row, pushed, Below, IsModel}
use Rattle.ppda.specs.Chances.{counted, mass, chance_from}
use Rattle.ppda.proofs.Rows.{fits_exactly, row_cong, row_mono, row_const}
use Rattle.ppda.proofs.Steps.{counted_zero, counted_empty, counted_step, chance_zero, chance_empty, chance_step}
use Rattle.ppda.proofs.Stacks.{below_append}

module _ (m : List Rule) (s g : ℕ) (model : IsModel s g m) where
  pub after_below : (r : Rule) → In r m → (σ : List ℕ) → Below g σ → Below g (pushed r.push ++ σ)
  after_below r i σ b = below_append g (pushed r.push) σ (model.rule r i).push b

  -- A row's rules, each before the same number over 65536 ^ n.
  pub row_of_power : (n p z : ℕ) → p < s → z < g → over_row m p z (λ r. 65536 ^ n) ≡ 65536 ^ suc n
  row_of_power n p z hp hz =
      row_const m p z (65536 ^ n) ∙ ap (λ k. 65536 ^ n * k) (model.row p z hp hz) ∙ mul_comm (65536 ^ n) 65536 ∙ sym (pow-succ' 65536 n)

  -- From any configuration of the model.
  pub mass_whole_from : (n p : ℕ) (σ : List ℕ) → p < s → Below g σ → counted (λ l. 1) m n p σ ≡ 65536 ^ n
  mass_whole_from zero p σ hp b = counted_zero m (λ l. 1) p σ
  mass_whole_from (suc n) p [] hp b = counted_empty m (λ l. 1) (suc n) p ∙ mul-one _
  mass_whole_from (suc n) p (z ∷ σ) hp b =
      counted_step m (λ l. 1) n p z σ
      ∙ row_cong m p z _ (λ r. 65536 ^ n) (λ r i. mass_whole_from n r.target (pushed r.push ++ σ) (model.rule r i).target (after_below r i σ b.1))
      ∙ row_of_power n p z hp b.0

  -- From a row.
  pub mass_whole : (n p z : ℕ) → p < s → z < g → mass m n p z ≡ 65536 ^ n
  mass_whole n p z hp hz = mass_whole_from n p (z ∷ []) hp (hz, tt)

  -- ---- no chance is above 1

  -- A pair that is no row of the model has no rules.
  no_row : (p z : ℕ) → ((r : Rule) → In r m → fits r p z ≡ true → ⊥) → over_row m p z (λ r. 1) ≡ 0
  unfolding over_row
  no_row p z none = sum_cong _ (λ r. 0) m (λ r i. go r (none r i) (fits r p z) refl) ∙ sum_zero m
    where
      go : (r : Rule) → (fits r p z ≡ true → ⊥) → (t : Bool) → fits r p z ≡ t → bit (fits r p z) * (r.weight * 1) ≡ 0
      go r not true e = absurd (not e)
      go r not false e = rw e (zero-mul (r.weight * 1))

  row_most : (p z : ℕ) → over_row m p z (λ r. 1) ≤ 65536
  row_most p z = go (ltb p s) refl (ltb z g) refl
    where
      go : (a : Bool) → ltb p s ≡ a → (b : Bool) → ltb z g ≡ b → over_row m p z (λ r. 1) ≤ 65536
      go true ep true ez = le_of_eq (model.row p z (ltb-true p s ep) (ltb-true z g ez))
      go true ep false ez =
          rw (no_row p z (λ r i e. omega (arith, (fits_exactly r p z).0 e, (model.rule r i).symbol, ltb-false z g ez))) zero-le
      go false ep b ez =
          rw (no_row p z (λ r i e. omega (arith, (fits_exactly r p z).0 e, (model.rule r i).state, ltb-false p s ep))) zero-le

  empty_most : (n p q : ℕ) → chance_from m n p [] q ≤ 65536 ^ n
  empty_most n p q = rw (chance_empty m n p q) (go (eqb p q))
    where
      go : (t : Bool) → 65536 ^ n * bit t ≤ 65536 ^ n
      go true = le_of_eq (mul-one (65536 ^ n))
      go false = rw (mul-zero (65536 ^ n)) zero-le

  -- From any state with any stack.
  pub chance_most : (n p : ℕ) (σ : List ℕ) (q : ℕ) → chance_from m n p σ q ≤ 65536 ^ n
  chance_most zero p [] q = empty_most 0 p q
  chance_most (suc n) p [] q = empty_most (suc n) p q
  chance_most zero p (z ∷ σ) q = rw (chance_zero m p q z σ) zero-le
  chance_most (suc n) p (z ∷ σ) q =
      rw (chance_step m n p z σ q)
      (le_trans (row_mono m p z _ (λ r. 65536 ^ n) (λ r i. chance_most n r.target (pushed r.push ++ σ) q))
      (rw (row_const m p z (65536 ^ n), pow-succ' 65536 n, mul_comm 65536 (65536 ^ n)) (mul-le-mul_left (65536 ^ n) (row_most p z))))
