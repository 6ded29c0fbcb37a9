-- The number, the place and the shortfall of a refused counter file: 46 at place 0, 47 at one of its records, 48 at one of its states, and 0, since no test of it
-- is an inequality that is missed.
use Prim.Native.Nat.{ℕ, zero, suc, ◌≤◌, ◌<◌}
use native.Mathlib.Omega.{arith}
use mathlib.Core.Bool.{Bool}
use mathlib.Core.List.{List, [], ◌∷◌, ◌++◌}
use mathlib.Core.Logic.{◌⊎◌, inl, inr}
use mathlib.Core.Path.{◌≡◌, refl, sym, ap, ◌∙◌}
use lib.IntN.{ℤ, pos}
use Rattle.outcome.specs.declared.Reason.{Reason}
use Rattle.outcome.specs.Reasons.{number_of}
use Rattle.outcome.specs.Tests.{Test, plain, FirstFailure}
use Rattle.outcome.proofs.Tests.{first_failure, Refusals, refusals_none, refusals_cons, refusals_append, refusals_each}
use Rattle.walks.specs.Sums.{In}
use Rattle.walks.specs.Lists.{each}
use Rattle.walks.proofs.Lists.{in_append_right, in_append_cases}
use Rattle.counter.specs.Records.{moves_in, states_in}
use Rattle.counter.specs.Verdict.{move_tests, state_tests, counter_tests, counter_verdict}
use Rattle.outcome.specs.declared.Refusal.{Refusal}
use Rattle.outcome.specs.Outcomes.{Refused}

-- ---- number and place

-- What holds of a refusal's reason and place.
pub record InCounter (c : List ℕ) (r : Reason) (i : ℕ) : Type 0 where
  pub least : 46 ≤ number_of r
  pub number : number_of r ≤ 48
  pub at_start_lem : number_of r ≡ 46 → i ≡ 0
  pub at_record : number_of r ≡ 47 → i < moves_in c
  pub at_state : number_of r ≡ 48 → i < states_in c

pub counter_places : (c : List ℕ) → Refusals (InCounter c) (counter_tests c)
unfolding counter_tests move_tests state_tests
counter_places c =
    refusals_cons (record { least = omega arith; number = omega arith; at_start_lem = λ e. refl; at_record = λ e. absurd (omega arith); at_state = λ e. absurd (omega arith) }) (λ e.
    refusals_append
    (refusals_each (moves_in c) (λ i l.
    refusals_cons (record { least = omega arith; number = omega arith; at_start_lem = λ e. absurd (omega arith); at_record = λ e. l; at_state = λ e. absurd (omega arith) }) (λ e. refusals_none)))
    (λ passed. refusals_each (states_in c) (λ u l.
    refusals_cons (record { least = omega arith; number = omega arith; at_start_lem = λ e. absurd (omega arith); at_record = λ e. absurd (omega arith); at_state = λ e. l }) (λ e. refusals_none))))

-- The number is one of 46 to 48.
pub counter_number : (c : List ℕ) (r : Reason) (i : ℕ) (k : ℤ) → counter_verdict c ≡ Refused r i k → (46 ≤ number_of r) × (number_of r ≤ 48)
unfolding counter_verdict
counter_number c r i k e = let x = (counter_places c).refused _ e in (x.least, x.number)

-- ---- shortfall

-- No test of the list is an inequality.
record Plain (ts : List Test) : Type 0 where
  zero : (t : Test) → In t ts → t.shortfall ≡ pos 0

plain_none : Plain []
plain_none = record { zero = λ t i. absurd i }

plain_one : {f : Bool} {r : Reason} {i : ℕ} → Plain (plain f r i ∷ [])
plain_one {f} {r} {i} = record { zero = go }
  where
    go : (t : Test) → In t (plain f r i ∷ []) → t.shortfall ≡ pos 0
    go t (inl e) = rw e
    go t (inr i) = absurd i

plain_append : {xs ys : List Test} → Plain xs → Plain ys → Plain (xs ++ ys)
plain_append {xs} {ys} f g = record { zero = λ t i. go t (in_append_cases t xs ys i) }
  where
    go : (t : Test) → In t xs ⊎ In t ys → t.shortfall ≡ pos 0
    go t (inl i) = f.zero t i
    go t (inr i) = g.zero t i

plain_each : (n : ℕ) {h : ℕ → List Test} → ((i : ℕ) → Plain (h i)) → Plain (each n h)
unfolding each
plain_each zero r = plain_none
plain_each (suc n) r = plain_append (plain_each n r) (r n)

counter_plain : (c : List ℕ) → Plain (counter_tests c)
unfolding counter_tests move_tests state_tests
counter_plain c = plain_append plain_one (plain_append (plain_each (moves_in c) (λ i. plain_one)) (plain_each (states_in c) (λ u. plain_one)))

failing_in : {ts : List Test} {t : Test} → FirstFailure ts t → In t ts
failing_in {ts} {t} x = rw x.split (in_append_right t x.before (t ∷ x.after) (inl refl))

pub counter_shortfall : (c : List ℕ) (r : Reason) (i : ℕ) (k : ℤ) → counter_verdict c ≡ Refused r i k → k ≡ pos 0
unfolding counter_verdict
counter_shortfall c r i k e =
    let (t, (found, same)) = first_failure (counter_tests c) _ e in
    let is : ◌≡◌ {A = Refusal} (record { reason = t.reason; place = t.place; shortfall = t.shortfall }) (record { reason = r; place = i; shortfall = k }) = cc in
    sym (ap (λ (w : Refusal). w.shortfall) is) ∙ (counter_plain c).zero t (failing_in found)
