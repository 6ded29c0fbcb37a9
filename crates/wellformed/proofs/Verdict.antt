-- The verdict step by step, as the code finds it.
use Prim.Native.Nat.{ℕ, ◌<◌}
use mathlib.Core.Bool.{true, false, not}
use mathlib.Core.List.{List, [], ◌∷◌, ◌++◌}
use mathlib.Core.Path.{◌≡◌, refl, sym, ap, ◌∙◌}
use lib.IntN.{pos}
use lib.ListN.{length}
use Rattle.std.specs.Prelude.{Err}
use borrow.Author.Tests.{eq-eqb, ne_eqb}
use Rattle.outcome.specs.declared.Reason.TheVariants.{ModelLength, NotAscending, RowSumWrong}
use Rattle.outcome.specs.Tests.{plain, first}
use Rattle.walks.specs.Lists.{each}
use Rattle.outcome.proofs.Tests.{first_fails, first_passes, first_after, first_stands, refusal_not_accepted, each_refused}
use Rattle.ppda.specs.Units.{weight_unit}
use Rattle.model.specs.Records.{records_of, symbols_of}
use Rattle.model.specs.Rules.{row_sum}
use Rattle.wellformed.specs.Verdict.{whole_records, ascends, record_tests, row_tests, rows_tests, model_tests, model_verdict}
use Rattle.wellformed.specs.Clauses.{own_tests}
use Rattle.outcome.specs.Outcomes.{Outcome, Accepted, Refused}
use Rattle.outcome.specs.declared.Refusal.{Refusal}

-- The outcome of a record by its own tests and then by its order.
module _ (b : List ℕ) (i : ℕ) where
  order_last : record_tests b i ≡ own_tests b i ++ (plain (not (ascends b i)) NotAscending i ∷ [])
  unfolding record_tests own_tests
  order_last = refl

  pub own_refuse : {why : Refusal} → first (own_tests b i) ≡ Err why → first (record_tests b i) ≡ Err why
  own_refuse e = ap first order_last ∙ first_stands (own_tests b i) _ (λ a. refusal_not_accepted _ a e) ∙ e

  order_decides : first (own_tests b i) ≡ Accepted → first (record_tests b i) ≡ first (plain (not (ascends b i)) NotAscending i ∷ [])
  order_decides own = ap first order_last ∙ first_after (own_tests b i) _ own

  pub order_fails : first (own_tests b i) ≡ Accepted → ascends b i ≡ false → first (record_tests b i) ≡ Refused NotAscending i (pos 0)
  unfolding first
  order_fails own a = order_decides own ∙ rw a

  pub record_passes : first (own_tests b i) ≡ Accepted → ascends b i ≡ true → first (record_tests b i) ≡ Accepted
  unfolding first
  record_passes own a = order_decides own ∙ rw a

-- A refusal of record i, where all before it have passed, is that of n records.
pub record_refuses : (b : List ℕ) (n i : ℕ) {why : Refusal} → i < n → first (each i (record_tests b)) ≡ Accepted → first (record_tests b i) ≡ Err why
    → first (each n (record_tests b)) ≡ Err why
record_refuses b n i l passed e = sym (each_refused (record_tests b) n i _ l passed refl e) ∙ e

-- The outcome of a row by its sum.
module _ (b : List ℕ) (k : ℕ) where
  pub row_fails : (row_sum b (symbols_of b) k ≡ weight_unit → ⊥) → first (row_tests b k) ≡ Refused RowSumWrong k (pos 0)
  unfolding row_tests first
  row_fails n = rw (ne_eqb _ _ n)

  pub row_passes : row_sum b (symbols_of b) k ≡ weight_unit → first (row_tests b k) ≡ Accepted
  unfolding row_tests first
  row_passes e = rw (eq-eqb _ _ e)

-- The outcome of all records.
abbrev pub records_outcome : List ℕ → Outcome
records_outcome b = first (each (records_of b) (record_tests b))

-- The verdict by its three parts, in their order.
module _ (b : List ℕ) where
  -- The length fails.
  pub length_decides : whole_records (length b) ≡ false → model_verdict b ≡ Refused ModelLength 0 (pos 0)
  unfolding model_verdict model_tests
  length_decides e = first_fails _ _ (rw e)

  -- The length passes and a record fails.
  pub records_refuse : {why : Refusal} → whole_records (length b) ≡ true → records_outcome b ≡ Err why → model_verdict b ≡ Err why
  unfolding model_verdict model_tests
  records_refuse e refuses =
      first_passes _ _ (rw e) ∙ first_stands (each (records_of b) (record_tests b)) _ (λ a. refusal_not_accepted _ a refuses) ∙ refuses

  -- The length and the records pass.
  pub rows_decide : whole_records (length b) ≡ true → records_outcome b ≡ Accepted
      → model_verdict b ≡ first (rows_tests b)
  unfolding model_verdict model_tests
  rows_decide e a = first_passes _ _ (rw e) ∙ first_after (each (records_of b) (record_tests b)) _ a
