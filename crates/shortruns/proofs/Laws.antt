-- The laws that the functions' proofs share: the chance of one symbol record by record, that of a stacked pair term by term, and their limits.
use Prim.Native.Nat.{ℕ, zero, suc, ◌+◌, ◌*◌, ◌/◌, ◌%◌, ◌^◌, ◌≤◌, ◌<◌}
use native.Mathlib.Nat.{le_trans, le_of_eq, zero-add, one-mul, mul-one, mul_comm, mul-le-mul_left, pow-succ', eq-zero-or-pos}
use native.Mathlib.Omega.{arith}
use mathlib.Core.List.{List, [], append-nil}
use mathlib.Core.Logic.{◌⊎◌, inl, inr}
use mathlib.Core.Path.{◌≡◌, refl, sym, ap, ap₂, ◌∙◌}
use lib.Dec.{eqb, lit≤}
use lib.ListN.{length}
use Rattle.walks.specs.Sums.{bit, sum_to}
use Rattle.walks.specs.Order.{row_at, by_row}
use Rattle.walks.proofs.Sums.{sum_to_cong, sum_to_zero, sum_to_grows}
use Rattle.walks.proofs.Places.{row_at_lem, row_of_lem, sum_to_rows}
use Rattle.ppda.specs.Rules.{Push, over_row, pushed}
use Rattle.ppda.specs.Chances.{chance_from, chance}
use Rattle.ppda.proofs.Rows.{row_cong}
use Rattle.ppda.proofs.Steps.{chance_zero, chance_empty, chance_step}
use Rattle.ppda.proofs.Equations.{targets}
use Rattle.ppda.proofs.Pairs.{exactly_zero, chance_few, pair_term, chance_of_pair_by_number}
use Rattle.ppda.proofs.Mass.{chance_most}
use Rattle.model.specs.Records.{records_of, target, pushes, top, under}
use Rattle.model.specs.Rules.{push_of, push_at, rules_of}
use Rattle.model.specs.Clauses.{Sized}
use Rattle.model.proofs.Accepted.{sized_model, record_names}
use Rattle.rows.proofs.Sums.{pushes_nothing, pushes_one, pushes_two, RowSum, row_within, StateSum}
use Rattle.shortruns.specs.Short.{most_steps}
use Rattle.shortruns.specs.Clauses.{row_chance, pair_chance}

-- ---- limits

-- 65,536 to the power of so few steps is far from the end of 64 bits.
pub power_most : (n : ℕ) → n ≤ most_steps → 65536 ^ n ≤ 2 ^ 48
power_most zero l = lit≤ tt
power_most (suc zero) l = lit≤ tt
power_most (suc (suc zero)) l = lit≤ tt
power_most (suc (suc (suc zero))) l = lit≤ tt
power_most (suc (suc (suc (suc n)))) l = absurd (omega arith)

module _ {b : List ℕ} {s g : ℕ} (sized : Sized b s g) where
  pub stack_most : (n p : ℕ) (σ : List ℕ) (q : ℕ) → chance_from (rules_of b) n p σ q ≤ 65536 ^ n
  stack_most n p σ q = chance_most (rules_of b) s g (sized_model sized) n p σ q

-- ---- one symbol

-- From state r with what a record pushes alone: the chance of emptying the stack in q within n steps.
abbrev pub after_push : List ℕ → ℕ → ℕ → ℕ → Push → ℕ
after_push b n q r x = chance_from (rules_of b) n r (pushed x) q

-- The chance of one symbol is that of what the row's records push, with one step fewer.
pub one_by_records : (b : List ℕ) (n l p z q : ℕ) → n ≡ suc l
    → chance (rules_of b) n p z q ≡ over_row (rules_of b) p z (λ r. after_push b l q r.target r.push)
one_by_records b n l p z q e =
    ap (λ k. chance (rules_of b) k p z q) e
    ∙ chance_step (rules_of b) l p z [] q
    ∙ row_cong (rules_of b) p z _ _ (λ r i. ap (λ σ. chance_from (rules_of b) l r.target σ q) (append-nil (pushed r.push)))

-- No step, no return.
pub no_steps : (b : List ℕ) (g k q : ℕ) → 0 ≡ row_chance b g 0 k q
no_steps b g k q = sym (chance_zero (rules_of b) (k / g) q (k % g) [])

-- Row number k = p × g + z is (p, z).
pub at_row : (b : List ℕ) (g n p z q : ℕ) {k : ℕ} → z < g → k ≡ row_at g p z → row_chance b g n k q ≡ chance (rules_of b) n p z q
at_row b g n p z q l e = let at = row_at_lem g p z l in rw e (ap₂ (λ a c. chance (rules_of b) n a c q) at.0 at.1)

push_length : (l y x : ℕ) → l ≤ 2 → length (pushed (push_of l y x)) ≡ l
push_length zero y x h = refl
push_length (suc zero) y x h = refl
push_length (suc (suc zero)) y x h = refl
push_length (suc (suc (suc l))) y x h = absurd (omega arith)

module _ (b : List ℕ) (i n q : ℕ) where
  -- Record i pushes more symbols than steps are left.
  pub pushes_too_many : pushes b i ≤ 2 → n < pushes b i → after_push b n q (target b i) (push_at b i) ≡ 0
  pushes_too_many most l =
      chance_few (rules_of b) n (target b i) (pushed (push_at b i)) q (rw (push_length (pushes b i) (top b i) (under b i) most) l)

  pub pushes_pair : pushes b i ≡ 2 → after_push b n q (target b i) (push_at b i) ≡ pair_chance b n i q
  pushes_pair e = rw (pushes_two (pushes b i) (top b i) (under b i) (λ z. omega arith) (λ z. omega arith))

  pub pushes_single : pushes b i ≡ 1 → after_push b n q (target b i) (push_at b i) ≡ chance (rules_of b) n (target b i) (top b i) q
  pushes_single e = rw (pushes_one (pushes b i) (top b i) (under b i) e)

  pub pushes_none : pushes b i ≡ 0 → after_push b n q (target b i) (push_at b i) ≡ 65536 ^ n * bit (eqb (target b i) q)
  pushes_none e = rw (pushes_nothing (pushes b i) (top b i) (under b i) e) (chance_empty (rules_of b) n (target b i) q)

-- A record pushes two symbols, one, or none.
pub pushes_nothing_left : (l : ℕ) → l ≤ 2 → (l ≡ 2 → ⊥) → (l ≡ 1 → ⊥) → l ≡ 0
pushes_nothing_left l most two one = omega arith

-- A sum over a row is far from the end of 64 bits.
pub row_limit : {b : List ℕ} {s g p z k a e i m : ℕ} (n q : ℕ) → RowSum b s g p z (after_push b n q) k a e 0 i m → n < most_steps → m ≤ 2 ^ 48
row_limit n q at few =
    le_trans (row_within at (65536 ^ n) (λ r x. stack_most at.sized n r (pushed x) q))
    (le_trans (le_of_eq (zero-add _ ∙ mul_comm (65536 ^ n) 65536 ∙ sym (pow-succ' 65536 n))) (power_most (suc n) few))

-- ---- a stacked pair

-- The terms for the pair that record i pushes: term k has k / s steps of the first symbol, and the state k % s between.
abbrev pub pair_terms : List ℕ → ℕ → ℕ → ℕ → ℕ → ℕ → ℕ
pair_terms b s n i q = by_row s (pair_term (rules_of b) n (target b i) (top b i) (under b i) q)

-- No step of the first symbol is no way to be gone.
none_without_step : (b : List ℕ) (s n i q : ℕ) → sum_to (pair_terms b s n i q) s ≡ 0
unfolding sum_to
none_without_step b s n i q =
    ap (sum_to (pair_terms b s n i q)) (sym (one-mul s))
    ∙ sum_to_rows 1 s (pair_term (rules_of b) n (target b i) (top b i) (under b i) q)
    ∙ zero-add _
    ∙ sum_to_cong _ (λ t. 0) s (λ t l. rw (exactly_zero (rules_of b) (target b i) (top b i) [] t) (omega arith))
    ∙ sum_to_zero s

-- So the sum begins with term s.
pub pair_begin : (b : List ℕ) (s n i q : ℕ) → 0 < n → StateSum (pair_terms b s n i q) (s * n) s 0
pair_begin b s n i q some =
    record { to = le_trans (le_of_eq (sym (mul-one s))) (mul-le-mul_left s some); sum = sym (none_without_step b s n i q) }

-- Past the terms without a step of the first symbol, each has one at least, and leaves one at least.
pub pair_split : (s n k : ℕ) → 0 < s → s ≤ k → k < s * n → (0 < k / s) × (k / s < n) × (k % s < s)
pair_split s n k some from to =
    let (steps, state, is) = row_of_lem n s k some (omega (arith, mul_comm s n)) in
    (go (eq-zero-or-pos (k / s)) state is, steps, state)
  where
    go : (k / s ≡ 0) ⊎ (0 < k / s) → k % s < s → k / s * s + k % s ≡ k → 0 < k / s
    go (inr l) state is = l
    go (inl e) state is = let t : 0 * s + k % s ≡ k = rw e at is in absurd (omega arith)

module _ {b : List ℕ} {s g : ℕ} (sized : Sized b s g) (n q : ℕ) {i : ℕ} (l : i < records_of b) where
  -- All terms are the pair's chance.
  pub pair_end : sum_to (pair_terms b s n i q) (s * n) ≡ pair_chance b n i q
  pair_end =
      ap (sum_to (pair_terms b s n i q)) (mul_comm s n)
      ∙ sym (chance_of_pair_by_number (rules_of b) s (targets (rules_of b) s g (sized_model sized)) n (target b i) (top b i) (under b i) q (record_names sized l).0)

  -- The terms so far are no more, and far from the end of 64 bits.
  pub pair_limit : {k m : ℕ} → StateSum (pair_terms b s n i q) (s * n) k m → n ≤ most_steps → m ≤ 2 ^ 48
  pair_limit {k} at few =
      rw at.sum
      (le_trans (sum_to_grows (pair_terms b s n i q) k (s * n) at.to)
      (le_trans (le_of_eq pair_end) (le_trans (stack_most sized n _ _ q) (power_most n few))))
