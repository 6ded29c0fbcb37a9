-- The verdict accepts exactly the model files, and a refusal is that of the first test that fails.
use Prim.Native.Nat.{ℕ, zero, suc, ◌%◌, ◌≤◌, ◌<◌}
use native.Mathlib.Omega.{arith}
use mathlib.Core.Bool.{Bool, true, false, ◌&&◌, ◌||◌, false≢true}
use mathlib.Core.List.{List, [], ◌∷◌}
use mathlib.Core.Logic.Iff
use mathlib.Core.Logic.{◌↔◌, ◌⊎◌, inl, inr}
use mathlib.Core.Path.{◌≡◌, refl, sym, ap, ◌∙◌}
use lib.Dec.{eqb, leb, ltb}
use lib.IntN.{ℤ}
use lib.ListN.{length}
use borrow.Author.Tests.{ltb-true, ltb-false, eqb-true, eqb-false, not-false, lt-ltb, le-ltb, eq-eqb, ne_eqb}
use Rattle.walks.proofs.Places.{row_split, row_below}
use Rattle.outcome.specs.declared.Reason.{Reason}
use Rattle.outcome.specs.Tests.{Test, refusal, first, Passed, FirstFailure}
use Rattle.walks.specs.Lists.{each}
use Rattle.walks.proofs.Exactly.{lt_exactly, le_exactly, eq_exactly, both, or_exactly, not_exactly}
use Rattle.outcome.proofs.Tests.{accepted_exactly, refused_exactly, first_failure, passed_append, passed_each}
use Rattle.ppda.specs.Units.{weight_unit}
use Rattle.walks.specs.Order.{rows_in, row_at}
use Rattle.model.specs.Format.{record_bytes, most_bytes, most_states, most_symbols, most_pushes}
use Rattle.model.specs.Records.{records_of, states_of, symbols_of, state, symbol, target, pushes, top, under, weight, key}
use Rattle.model.specs.Rules.{row_sum}
use Rattle.model.specs.Accepted.{RecordRight, Above, RecordsRight, Ascending, ModelFile}
use Rattle.model.specs.Clauses.{Sized}
use Rattle.model.specs.Sizes.{sizes_of}
use Rattle.model.specs.declared.sizes.Sizes.{Sizes}
use Rattle.model.proofs.Rows.{row_sum_lem}
use Rattle.wellformed.specs.Verdict.{whole_records, range_at, unused_at, weight_at, above, ascends, record_tests, row_tests, rows_tests, model_tests, model_verdict}
use Rattle.outcome.specs.Outcomes.{Accepted, Refused}

-- ---- tests and what they say

whole_exactly : (n : ℕ) → (whole_records n ≡ true) ↔ ((0 < n) × ((n % record_bytes ≡ 0) × (n ≤ most_bytes)))
unfolding whole_records
whole_exactly n = both (ltb 0 n) _ (lt_exactly 0 n) (both (eqb (n % record_bytes) 0) _ (eq_exactly (n % record_bytes) 0) (le_exactly n most_bytes))

pub range_exactly : (b : List ℕ) (i : ℕ) → (range_at b i ≡ true)
    ↔ ((state b i < most_states) × ((symbol b i < most_symbols) × ((target b i < most_states)
    × ((pushes b i ≤ most_pushes) × ((top b i < most_symbols) × (under b i < most_symbols))))))
unfolding range_at
range_exactly b i =
    both (ltb (state b i) most_states) _ (lt_exactly (state b i) most_states)
    (both (ltb (symbol b i) most_symbols) _ (lt_exactly (symbol b i) most_symbols)
    (both (ltb (target b i) most_states) _ (lt_exactly (target b i) most_states)
    (both (leb (pushes b i) most_pushes) _ (le_exactly (pushes b i) most_pushes)
    (both (ltb (top b i) most_symbols) (ltb (under b i) most_symbols) (lt_exactly (top b i) most_symbols) (lt_exactly (under b i) most_symbols)))))

unused_tests : (l y x : ℕ) → (((ltb 0 l || eqb y 0) && (eqb l 2 || eqb x 0)) ≡ true) ↔ ((l ≡ 0 → y ≡ 0) × ((l ≡ 2 → ⊥) → x ≡ 0))
unused_tests l y x = both (ltb 0 l || eqb y 0) (eqb l 2 || eqb x 0) top under
  where
    top : ((ltb 0 l || eqb y 0) ≡ true) ↔ (l ≡ 0 → y ≡ 0)
    top = (
      λ e n. eqb-true y 0 ((or_exactly (ltb 0 l) (eqb y 0)).0 e (le-ltb 0 l (omega arith))),
      λ f. (or_exactly (ltb 0 l) (eqb y 0)).1 (λ e. eq-eqb y 0 (f (omega (arith, ltb-false 0 l e)))),
    )

    under : ((eqb l 2 || eqb x 0) ≡ true) ↔ ((l ≡ 2 → ⊥) → x ≡ 0)
    under = (
      λ e n. eqb-true x 0 ((or_exactly (eqb l 2) (eqb x 0)).0 e (ne_eqb l 2 n)),
      λ f. (or_exactly (eqb l 2) (eqb x 0)).1 (λ e. eq-eqb x 0 (f (eqb-false l 2 e))),
    )

unused_exactly : (b : List ℕ) (i : ℕ)
    → (unused_at b i ≡ true) ↔ ((pushes b i ≡ 0 → top b i ≡ 0) × ((pushes b i ≡ 2 → ⊥) → under b i ≡ 0))
unfolding unused_at
unused_exactly b i = unused_tests (pushes b i) (top b i) (under b i)

weight_exactly : (b : List ℕ) (i : ℕ) → (weight_at b i ≡ true) ↔ ((1 ≤ weight b i) × (weight b i ≤ weight_unit))
unfolding weight_at
weight_exactly b i = both (ltb 0 (weight b i)) (leb (weight b i) weight_unit) (lt_exactly 0 (weight b i)) (le_exactly (weight b i) weight_unit)

-- One place of two lists: greater there, or equal there and above in the rest.
above_step : {A : Type 0} (m n : ℕ) (t : Bool) → (t ≡ true) ↔ A → ((ltb n m || (eqb m n && t)) ≡ true) ↔ ((n < m) ⊎ ((m ≡ n) × A))
above_step {A} m n t r = (to (ltb n m) refl, from)
  where
    rest : ((eqb m n && t) ≡ true) ↔ ((m ≡ n) × A)
    rest = both (eqb m n) t (eq_exactly m n) r

    to : (u : Bool) → ltb n m ≡ u → (ltb n m || (eqb m n && t)) ≡ true → (n < m) ⊎ ((m ≡ n) × A)
    to true u e = inl (ltb-true n m u)
    to false u e = inr (rest.0 ((or_exactly (ltb n m) (eqb m n && t)).0 e u))

    from : (n < m) ⊎ ((m ≡ n) × A) → (ltb n m || (eqb m n && t)) ≡ true
    from (inl h) = rw (lt-ltb n m h)
    from (inr h) = (or_exactly (ltb n m) (eqb m n && t)).1 (λ e. rest.1 h)

pub above_exactly : (xs ys : List ℕ) → (above xs ys ≡ true) ↔ Above xs ys
above_exactly [] ys = (false≢true, λ h. absurd h)
above_exactly (m ∷ xs) [] = (false≢true, λ h. absurd h)
above_exactly (m ∷ xs) (n ∷ ys) = above_step m n (above xs ys) (above_exactly xs ys)

-- ---- the tests of a file

record_exactly : (b : List ℕ) (i : ℕ) → Passed (record_tests b i) ↔ (RecordRight b i × (ascends b i ≡ true))
unfolding record_tests
record_exactly b i = (
  λ h. let r = (range_exactly b i).0 (not-false _ h.0) in
      let u = (unused_exactly b i).0 (not-false _ h.1.0) in
      let w = (weight_exactly b i).0 (not-false _ h.1.1.0) in (
        record {
          state_range = r.0;
          symbol_range = r.1.0;
          target_range = r.1.1.0;
          pushes_range = r.1.1.1.0;
          top_range = r.1.1.1.1.0;
          under_range = r.1.1.1.1.1;
          top_unused = u.0;
          under_unused = u.1;
          weight_some = w.0;
          weight_most = w.1;
        },
        not-false _ h.1.1.1.0,
      ),
  λ h. let r = h.0 in (
    (not_exactly _).1 ((range_exactly b i).1
        (r.state_range, (r.symbol_range, (r.target_range, (r.pushes_range, (r.top_range, r.under_range)))))),
    (
      (not_exactly _).1 ((unused_exactly b i).1 (r.top_unused, r.under_unused)),
      (
        (not_exactly _).1 ((weight_exactly b i).1 (r.weight_some, r.weight_most)),
        ((not_exactly _).1 h.1, tt),
      ),
    ),
  ),
)

row_exactly : (b : List ℕ) (k : ℕ) → Passed (row_tests b k) ↔ (row_sum b (symbols_of b) k ≡ weight_unit)
unfolding row_tests
row_exactly b k = (λ h. eqb-true _ _ (not-false _ h.0), λ e. ((not_exactly _).1 (eq-eqb _ _ e), tt))

-- A record that ascends, in the two forms.
above_of_ascends : (b : List ℕ) (i : ℕ) → ascends b (suc i) ≡ true → Above (key b (suc i)) (key b i)
unfolding ascends
above_of_ascends b i e = (above_exactly (key b (suc i)) (key b i)).0 e

ascends_of_file : (b : List ℕ) → ModelFile b → (i : ℕ) → i < records_of b → ascends b i ≡ true
unfolding ascends
ascends_of_file b m zero l = refl
ascends_of_file b m (suc i) l = (above_exactly (key b (suc i)) (key b i)).1 (m.ascending i l)

-- Where the length and every record have passed, the records are right.
pub records_right : (b : List ℕ) → whole_records (length b) ≡ true → first (each (records_of b) (record_tests b)) ≡ Accepted → RecordsRight b
unfolding records_of
records_right b e f =
    let n = (whole_exactly (length b)).0 e in
    let records = (passed_each (records_of b) (record_tests b)).0 ((accepted_exactly (each (records_of b) (record_tests b))).0 f) in
    record { some = omega arith; most = omega arith; whole = omega arith; right = λ i l. ((record_exactly b i).0 (records i l)).0 }

-- And they ascend.
pub records_ascend : (b : List ℕ) → first (each (records_of b) (record_tests b)) ≡ Accepted → Ascending b
records_ascend b f i l =
    let records = (passed_each (records_of b) (record_tests b)).0 ((accepted_exactly (each (records_of b) (record_tests b))).0 f) in
    above_of_ascends b i ((record_exactly b (suc i)).0 (records (suc i) l)).1

file_of_passed : (b : List ℕ) → Passed (model_tests b) → ModelFile b
unfolding model_tests rows_tests
file_of_passed b h =
    let whole = not-false _ h.0 in
    let parts = (passed_append (each (records_of b) (record_tests b)) (each (rows_in (states_of b) (symbols_of b)) (row_tests b))).0 h.1 in
    let records : first (each (records_of b) (record_tests b)) ≡ Accepted = (accepted_exactly (each (records_of b) (record_tests b))).1 parts.0 in
    let rows = (passed_each (rows_in (states_of b) (symbols_of b)) (row_tests b)).0 parts.1 in
    record {
      records = records_right b whole records;
      ascending = records_ascend b records;
      row = λ p z hp hz.
          sym (row_sum_lem b p z hz)
          ∙ (row_exactly b (row_at (symbols_of b) p z)).0 (rows (row_at (symbols_of b) p z) (row_below (states_of b) (symbols_of b) p z hp hz));
    }

passed_row : (b : List ℕ) → ModelFile b → (k : ℕ) → k < rows_in (states_of b) (symbols_of b) → Passed (row_tests b k)
passed_row b m k l =
    let (p, z, hp, hz, e) = row_split (states_of b) (symbols_of b) k l in
    (row_exactly b k).1 (rw e (row_sum_lem b p z hz ∙ m.row p z hp hz))

passed_of_file : (b : List ℕ) → ModelFile b → Passed (model_tests b)
unfolding model_tests rows_tests records_of
passed_of_file b m = (
  (not_exactly _).1 ((whole_exactly (length b)).1 (omega (arith, m.records.some), (omega (arith, m.records.whole), omega (arith, m.records.whole, m.records.most)))),
  (passed_append (each (records_of b) (record_tests b)) (each (rows_in (states_of b) (symbols_of b)) (row_tests b))).1 (
    (passed_each (records_of b) (record_tests b)).1 (λ i l. (record_exactly b i).1 (m.records.right i l, ascends_of_file b m i l)),
    (passed_each (rows_in (states_of b) (symbols_of b)) (row_tests b)).1 (passed_row b m),
  ),
)

-- ---- the verdict

pub model_accepted : (b : List ℕ) → (model_verdict b ≡ Accepted) ↔ ModelFile b
unfolding model_verdict
model_accepted b = Iff.trans (accepted_exactly (model_tests b)) (file_of_passed b, passed_of_file b)

pub model_refused : (b : List ℕ) (r : Reason) (i : ℕ) (k : ℤ) → model_verdict b ≡ Refused r i k
    → (t : Test) × (FirstFailure (model_tests b) t × (refusal t ≡ Refused r i k))
unfolding model_verdict
model_refused b r i k = first_failure (model_tests b) _

pub model_refuses : (b : List ℕ) (t : Test) → FirstFailure (model_tests b) t → model_verdict b ≡ refusal t
unfolding model_verdict
model_refuses b = refused_exactly (model_tests b)

-- ---- an accepted model with its sizes

pub sized_of : {b : List ℕ} {s g : ℕ} → model_verdict b ≡ Accepted → s ≡ states_of b → g ≡ symbols_of b → Sized b s g
sized_of {b} e hs hg = record { file = (model_accepted b).0 e; states = hs; symbols = hg }

pub sized_by : {b : List ℕ} {n : Sizes} → model_verdict b ≡ Accepted → n ≡ sizes_of b → Sized b n.states n.symbols
sized_by e same = sized_of e (ap (λ (n : Sizes). n.states) same) (ap (λ (n : Sizes). n.symbols) same)
