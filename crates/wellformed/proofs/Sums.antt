-- The sum of a row as a loop over its records makes it: records ascend, so that those of a row follow each other.
use Prim.Native.Nat.{ℕ, ◌+◌, ◌*◌, ◌≤◌, ◌<◌}
use native.Mathlib.Nat.{le_trans}
use native.Mathlib.Omega.{arith}
use mathlib.Core.Bool.{Bool, true, false}
use mathlib.Core.List.{List}
use mathlib.Core.Path.{◌≡◌, sym, ap₂, ◌∙◌}
use lib.Dec.{eqb}
use borrow.Author.Tests.{eq-eqb, ne_eqb}
use borrow.Author.Count.{below_more}
use Rattle.walks.specs.Sums.{bit, sum_to}
use Rattle.walks.proofs.Sums.{sum_to_none, sum_to_past, sum_to_le, sum_to_step}
use Rattle.ppda.specs.Units.{weight_unit}
use Rattle.model.specs.declared.sizes.Sizes.{Sizes}
use Rattle.model.specs.Sizes.{sizes_of}
use Rattle.model.specs.Clauses.{Narrow, StartsAt}
use Rattle.model.specs.Records.{records_of, symbols_of, state, symbol, weight}
use Rattle.model.specs.Rules.{row_of, row_sum}
use Rattle.model.specs.Accepted.{RecordsRight, Ascending}
use Rattle.model.proofs.Records.{sizes_fit, fits_narrow, state_below, symbol_below}
use Rattle.model.proofs.Rows.{rows_ascend}

-- A right record is of a row.
pub record_in_row : {b : List ℕ} (n : Sizes) → RecordsRight b → n ≡ sizes_of b → (i : ℕ) → i < records_of b
    → Narrow n.states n.symbols × (state b i < n.states) × (symbol b i < n.symbols)
record_in_row {b} n right e i l = rw e (fits_narrow (sizes_fit b right.right), state_below b i l, symbol_below b i l)

-- What record j adds to row k.
abbrev adds : List ℕ → ℕ → ℕ → ℕ → ℕ
adds b g k j = bit (eqb (row_of b g j) k) * weight b j

adds_own : (b : List ℕ) (g k j : ℕ) → row_of b g j ≡ k → adds b g k j ≡ weight b j
adds_own b g k j e = rw (eq-eqb (row_of b g j) k e) (omega arith)

adds_other : (b : List ℕ) (g k j : ℕ) → (row_of b g j ≡ k → ⊥) → adds b g k j ≡ 0
adds_other b g k j n = rw (ne_eqb (row_of b g j) k n) (omega arith)

adds_most : (b : List ℕ) (g k j : ℕ) → weight b j ≤ weight_unit → adds b g k j ≤ weight_unit
adds_most b g k j h = go (eqb (row_of b g j) k)
  where
    go : (t : Bool) → bit t * weight b j ≤ weight_unit
    go true = omega arith
    go false = omega arith

-- n is the sum of the weights of row k before record `at`, and every record before it is of that row or an earlier one;
-- record i, where the row starts, is not after it.
pub record SumBefore (b : List ℕ) (g k i at n : ℕ) : Type 0 where
  pub from : i ≤ at
  pub within : at ≤ records_of b
  pub before : (j : ℕ) → j < at → row_of b g j < k + 1
  pub sum : n ≡ sum_to (adds b g k) at

-- Where row k starts, nothing of it lies before.
pub sum_none : {b : List ℕ} {g k i : ℕ} → StartsAt b g k i → SumBefore b g k i i 0
sum_none {b} {g} {k} {i} start =
    record {
      from = omega arith;
      within = start.within;
      before = λ j l. omega (arith, start.before j l);
      sum =
          sym (
          sym (sum_to_past (adds b g k) 0 i (omega arith) (λ j h l. adds_other b g k j (λ q. omega (arith, start.before j l))))
          ∙ sum_to_none (adds b g k)
          );
    }

module _ {b : List ℕ} {g k i at n : ℕ} (sums : SumBefore b g k i at n) where
  -- One record more of the row.
  pub sum_more : {w : ℕ} → at < records_of b → row_of b g at ≡ k → w ≡ weight b at → SumBefore b g k i (at + 1) (n + w)
  sum_more l own e =
      record {
        from = omega (arith, sums.from);
        within = omega arith;
        before = below_more (λ j. row_of b g j < k + 1) at sums.before (omega arith);
        sum = ap₂ ◌+◌ sums.sum (e ∙ sym (adds_own b g k at own)) ∙ sym (sum_to_step (adds b g k) at);
      }

  -- No sum exceeds 65,536 a record.
  pub sum_within : RecordsRight b → n ≤ at * weight_unit
  sum_within right =
      rw sums.sum (sum_to_le (adds b g k) weight_unit at (λ j l. adds_most b g k j (right.right j (omega (arith, sums.within))).weight_most))

  -- Where every record from here on is of a later row, the row has ended.
  ended : ((j : ℕ) → at ≤ j → j < records_of b → k + 1 ≤ row_of b g j) → (n ≡ row_sum b g k) × StartsAt b g (k + 1) at
  unfolding row_sum
  ended later = (
    sums.sum
        ∙ sum_to_past (adds b g k) at (records_of b) sums.within (λ j h l. adds_other b g k j (λ q. omega (arith, later j h l))),
    record { within = sums.within; before = sums.before; after = later },
  )

  -- A record of another row: the records ascend, so that it and all after it are of later rows.
  pub sum_stopped : Ascending b → g ≡ symbols_of b → StartsAt b g k i → at < records_of b → (row_of b g at ≡ k → ⊥)
      → (n ≡ row_sum b g k) × StartsAt b g (k + 1) at
  sum_stopped ascending e start l other =
      let own : k ≤ row_of b g at = start.after at sums.from l in
      let next : k + 1 ≤ row_of b g at = beyond own other in
      ended (λ j h m. le_trans next (rw e (rows_ascend b ascending at j h m)))
    where
      beyond : {r : ℕ} → k ≤ r → (r ≡ k → ⊥) → k + 1 ≤ r
      beyond h ne = omega arith

  -- No record is left.
  pub sum_ended : records_of b ≤ at → (n ≡ row_sum b g k) × StartsAt b g (k + 1) at
  sum_ended all = ended (λ j h l. absurd (omega arith))

-- Row 0 starts at record 0.
pub starts_first : {b : List ℕ} {g : ℕ} → StartsAt b g 0 0
starts_first = record { within = omega arith; before = λ j l. absurd (omega arith); after = λ j h l. omega arith }
