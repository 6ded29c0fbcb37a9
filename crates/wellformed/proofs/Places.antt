-- The number and the place of a refused model file: where the reason names a record, 11 to 14, it is a whole record of the file. It is below 65,536 in
-- any case: a file that is too long is refused at place 0, and any other has at most 1,024 records and, where they are right, rows within their limit.
use Prim.Native.Nat.{ℕ, ◌%◌, ◌≤◌, ◌<◌}
use native.Mathlib.Omega.{arith}
use mathlib.Core.Bool.{true, and-eq-true_iff}
use mathlib.Core.List.{List}
use mathlib.Core.Path.{◌≡◌}
use lib.Dec.{eqb, ltb}
use lib.IntN.{ℤ}
use lib.ListN.{length}
use borrow.Author.Tests.{leb-true, not-false}
use Rattle.outcome.specs.declared.Reason.{Reason}
use Rattle.outcome.specs.Reasons.{number_of}
use Rattle.outcome.proofs.Tests.{Refusals, refusals_none, refusals_cons, refusals_append, refusals_each}
use Rattle.walks.specs.Order.{rows_in}
use Rattle.model.specs.Format.{record_bytes, most_records, most_bytes}
use Rattle.model.specs.Records.{records_of, states_of, symbols_of}
use Rattle.wellformed.specs.Verdict.{whole_records, record_tests, row_tests, rows_tests, model_tests, model_verdict}
use Rattle.wellformed.proofs.Accepted.{records_right}
use Rattle.model.proofs.Records.{sizes_fit}
use Rattle.outcome.specs.Outcomes.{Refused}

-- A length that passes is that of at most 1,024 records.
few_records : (b : List ℕ) → whole_records (length b) ≡ true → records_of b ≤ most_records
unfolding whole_records records_of
few_records b e =
    let rest = ((and-eq-true_iff (ltb 0 (length b)) _).0 e).1 in
    omega (arith, leb-true (length b) most_bytes ((and-eq-true_iff (eqb (length b % record_bytes) 0) _).0 rest).1)

-- What holds of a refusal's reason and place.
pub record InModel (b : List ℕ) (r : Reason) (i : ℕ) : Type 0 where
  pub small : i < 65536
  pub least : 10 ≤ number_of r
  pub number : number_of r ≤ 15
  pub whole : 11 ≤ number_of r → number_of r ≤ 14 → i < records_of b

at_record : {b : List ℕ} {r : Reason} {i : ℕ} → 10 ≤ number_of r → number_of r ≤ 15 → records_of b ≤ most_records → i < records_of b → InModel b r i
at_record m n few l = record { small = omega arith; least = m; number = n; whole = λ from to. l }

record_place : (b : List ℕ) (i : ℕ) → records_of b ≤ most_records → i < records_of b → Refusals (InModel b) (record_tests b i)
unfolding record_tests
record_place b i few l =
    refusals_cons (at_record (omega arith) (omega arith) few l) (λ e.
    refusals_cons (at_record (omega arith) (omega arith) few l) (λ e.
    refusals_cons (at_record (omega arith) (omega arith) few l) (λ e.
    refusals_cons (at_record (omega arith) (omega arith) few l) (λ e. refusals_none))))

row_place : (b : List ℕ) (k : ℕ) → k < 65536 → Refusals (InModel b) (row_tests b k)
unfolding row_tests
row_place b k h = refusals_cons (record { small = h; least = omega arith; number = omega arith; whole = λ from to. absurd (omega arith) }) (λ e. refusals_none)

pub model_places : (b : List ℕ) → Refusals (InModel b) (model_tests b)
unfolding model_tests rows_tests
model_places b =
    refusals_cons (record { small = omega arith; least = omega arith; number = omega arith; whole = λ from to. absurd (omega arith) }) (λ e.
    let whole : whole_records (length b) ≡ true = not-false _ e in
    refusals_append (refusals_each (records_of b) (λ i l. record_place b i (few_records b whole) l))
    (λ passed. refusals_each (rows_in (states_of b) (symbols_of b))
    (λ k l. row_place b k (omega (arith, (sizes_fit b (records_right b whole passed).right).few_rows)))))

pub model_place : (b : List ℕ) (r : Reason) (i : ℕ) (k : ℤ) → model_verdict b ≡ Refused r i k → i < 65536
unfolding model_verdict
model_place b r i k e = ((model_places b).refused _ e).small

-- The number is one of 10 to 15.
pub model_number : (b : List ℕ) (r : Reason) (i : ℕ) (k : ℤ) → model_verdict b ≡ Refused r i k → (10 ≤ number_of r) × (number_of r ≤ 15)
unfolding model_verdict
model_number b r i k e = let x = (model_places b).refused _ e in (x.least, x.number)

-- A place that is a record is a whole one.
pub model_record_lem : (b : List ℕ) (r : Reason) (i : ℕ) (k : ℤ) → model_verdict b ≡ Refused r i k → 11 ≤ number_of r → number_of r ≤ 14
    → i < records_of b
unfolding model_verdict
model_record_lem b r i k e = ((model_places b).refused _ e).whole
