-- The rows of a model file by their numbers p × g + Z: record i's row is the row of its rule, so that the sum of a row is the theory's, and
-- the rows of the records ascend.
use Prim.Native.Nat.{ℕ, zero, suc, ◌+◌, ◌*◌, ◌≤◌, ◌<◌}
use native.Mathlib.Nat.{eq-or-lt_of_le, le_refl, le_trans, le_of_suc-le-suc, mul-one}
use native.Mathlib.Omega.{arith}
use mathlib.Core.List.{List}
use mathlib.Core.Logic.{◌⊎◌, inl, inr}
use mathlib.Core.Path.{◌≡◌, sym, ◌∙◌}
use lib.Dec.{eqb}
use borrow.Author.Tests.{eqb-true, eq-eqb}
use Rattle.walks.proofs.Exactly.{same_test}
use Rattle.walks.proofs.Places.{row_lower, row_once}
use Rattle.ppda.specs.Rules.{fits, over_row}
use Rattle.walks.proofs.Sums.{sum_to_cong}
use Rattle.ppda.proofs.Rows.{fits_exactly}
use Rattle.model.specs.Records.{records_of, symbols_of, state, symbol, key}
use Rattle.model.specs.Rules.{rule_of, rules_of, row_of, row_sum}
use Rattle.model.specs.Accepted.{Above, Ascending}
use Rattle.model.proofs.Records.{symbol_below, over_row_lem}

-- ---- the rows of records

pub row_fits : (b : List ℕ) (i p z : ℕ) → i < records_of b → z < symbols_of b
    → fits (rule_of b i) p z ≡ eqb (row_of b (symbols_of b) i) (p * symbols_of b + z)
unfolding rule_of row_of
row_fits b i p z l hz =
    same_test (fits (rule_of b i) p z) (eqb (row_of b (symbols_of b) i) (p * symbols_of b + z)) (
      λ e. let h = (fits_exactly (rule_of b i) p z).0 e in eq-eqb (row_of b (symbols_of b) i) (p * symbols_of b + z) (rw (h.0, h.1)),
      λ e. (fits_exactly (rule_of b i) p z).1 (row_once (symbols_of b) (state b i) (symbol b i) p z (symbol_below b i l) hz (eqb-true _ _ e)),
    )

pub row_sum_lem : (b : List ℕ) (p z : ℕ) → z < symbols_of b
    → row_sum b (symbols_of b) (p * symbols_of b + z) ≡ over_row (rules_of b) p z (λ r. 1)
unfolding row_sum
row_sum_lem b p z hz =
    sum_to_cong _ _ (records_of b) (λ i l. rw (row_fits b i p z l hz, mul-one))
    ∙ sym (over_row_lem b p z (λ r. 1))

-- ---- the order of the rows

-- A record above the one before it is in the same row or in a later one.
next_row : (b : List ℕ) (i : ℕ) → i < records_of b → Above (key b (suc i)) (key b i) → row_of b (symbols_of b) i ≤ row_of b (symbols_of b) (suc i)
unfolding row_of
next_row b i l (inl h) =
    omega (arith, row_lower (symbols_of b) (state b i) (symbol b i) (state b (suc i)) (symbol b (suc i)) (symbol_below b i l) h)
next_row b i l (inr (e, inl h)) = rw e (omega arith)
next_row b i l (inr (e, inr (f, h))) = rw (e, f) (le_refl _)

pub rows_ascend : (b : List ℕ) → Ascending b → (i j : ℕ) → i ≤ j → j < records_of b
    → row_of b (symbols_of b) i ≤ row_of b (symbols_of b) j
rows_ascend b ascending i zero h l = let e : i ≡ 0 = omega arith in rw e (le_refl _)
rows_ascend b ascending i (suc j) h l = go (eq-or-lt_of_le h) (λ c. rows_ascend b ascending i j c (omega arith))
  where
    go : (i ≡ suc j) ⊎ (i < suc j) → (i ≤ j → row_of b (symbols_of b) i ≤ row_of b (symbols_of b) j)
        → row_of b (symbols_of b) i ≤ row_of b (symbols_of b) (suc j)
    go (inl e) rest = rw e (le_refl (row_of b (symbols_of b) (suc j)))
    go (inr c) rest = le_trans (rest (le_of_suc-le-suc c)) (next_row b j (omega arith) (ascending j l))
