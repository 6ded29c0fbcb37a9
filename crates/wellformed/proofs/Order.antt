-- The order of records by their numbers: a record lies above the one before it exactly where its number is greater, and the first has none before it.
use Prim.Native.Nat.{ℕ, zero, suc, ◌+◌, ◌<◌}
use native.Mathlib.Numerals.{add-one}
use native.Mathlib.Omega.{arith}
use mathlib.Core.Bool.{Bool, true}
use mathlib.Core.List.{List}
use mathlib.Core.Logic.{◌↔◌}
use mathlib.Core.Path.{◌≡◌, sym}
use borrow.Author.Tests.{not-false}
use Rattle.walks.proofs.Exactly.{same_test}
use Rattle.outcome.specs.Tests.{first}
use Rattle.outcome.proofs.Tests.{accepted_exactly}
use Rattle.model.specs.Records.{key}
use Rattle.model.specs.Numbers.{Digits, key_bases, key_number}
use Rattle.model.specs.Accepted.{Above}
use Rattle.model.proofs.Numbers.{numerals_exactly}
use Rattle.wellformed.specs.Verdict.{above, ascends}
use Rattle.wellformed.specs.Clauses.{own_tests, Numbered, NumberedBefore, TellsOrder}
use Rattle.wellformed.proofs.Accepted.{range_exactly, above_exactly}
use Rattle.outcome.specs.Outcomes.{Accepted}

-- The fields of a record that has passed its own tests are in range, and so each is below its base.
own_digits : (b : List ℕ) (i : ℕ) → first (own_tests b i) ≡ Accepted → Digits key_bases (key b i)
unfolding own_tests
own_digits b i own =
    let (p, (z, (q, (l, (y, x))))) = (range_exactly b i).0 (not-false _ ((accepted_exactly (own_tests b i)).0 own).0) in
    (omega arith, (omega arith, (omega arith, (omega arith, (omega arith, (omega arith, tt))))))

pub numbered : {b : List ℕ} {i n : ℕ} → first (own_tests b i) ≡ Accepted → n ≡ key_number (key b i) → Numbered b i n
numbered {b} {i} own e = record { digits = own_digits b i own; number = e }

-- Of two records with their numbers.
by_numbers : {b : List ℕ} {i j m n : ℕ} → Numbered b i m → Numbered b j n → (n < m) ↔ Above (key b i) (key b j)
by_numbers {b} {i} {j} hi hj = rw (hi.number, hj.number) (numerals_exactly key_bases (key b i) (key b j) hi.digits hj.digits)

-- A test that holds of the first record, and of any other where its number is the greater, tells the order.
pub order_told : (i before number : ℕ) (t : Bool) → (t ≡ true) ↔ ((0 < i) → before < number) → TellsOrder i before number t
unfolding ascends
order_told zero before number t told b hb h = told.1 (λ l. absurd (omega arith))
order_told (suc i) before number t told b hb h =
    let two : (before < number) ↔ Above (key b (suc i)) (key b i) = by_numbers h (hb i (sym (add-one i))) in
    let listed = above_exactly (key b (suc i)) (key b i) in
    same_test t (above (key b (suc i)) (key b i)) (
      λ e. listed.1 (two.0 (told.0 e (omega arith))),
      λ e. told.1 (λ l. two.1 (listed.0 e)),
    )

-- Before the first record there is none, and after a record comes the next.
pub before_none : {b : List ℕ} {n : ℕ} → NumberedBefore b 0 n
before_none j e = absurd (omega (arith, e))

pub before_next : {b : List ℕ} {i n : ℕ} → Numbered b i n → NumberedBefore b (i + 1) n
before_next {b} {i} {n} h j e = let same : i ≡ j = omega (arith, e) in rw same at h
