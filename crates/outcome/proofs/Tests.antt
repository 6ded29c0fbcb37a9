-- The laws of lists of tests: when the outcome is acceptance, which test a refusal names, how a loop finds it, and what holds of what it names.
use Prim.Native.Nat.{ℕ, zero, suc, ◌+◌, ◌<◌}
use native.Mathlib.Numerals.{add-one}
use native.Mathlib.Omega.{arith}
use mathlib.Core.Bool.{Bool, true, false, false≢true}
use mathlib.Core.List.{List, [], ◌∷◌, ◌++◌}
use mathlib.Core.Logic.{◌↔◌}
use mathlib.Core.Path.{◌≡◌, refl, sym, ap, ◌∙◌, subst}
use Rattle.std.specs.Prelude.{Ok, Err}
use Rattle.walks.specs.Lists.{each}
use Rattle.walks.proofs.Sums.{last_or_below}
use Rattle.outcome.specs.declared.Reason.{Reason}
use Rattle.outcome.specs.declared.Refusal.{Refusal}
use Rattle.outcome.specs.Outcomes.{Outcome, Accepted, is_refused}
use Rattle.outcome.specs.Tests.{Test, refusal, first, Passed, FirstFailure}

-- ---- one test in front

-- A statement by the cases of a flag. A proof that goes by all cases of what a branch tests takes any test that comes out the same.
pub by_cases : {P : Type 0} (b : Bool) → (b ≡ false → P) → (b ≡ true → P) → P
by_cases true f t = t refl
by_cases false f t = f refl

-- A statement about a test by whether it fails.
by_test : {P : Type 0} (t : Test) → (t.fails ≡ true → P) → (t.fails ≡ false → P) → P
by_test t failed passed = by_cases t.fails passed failed

-- The first test decides if it fails.
pub first_fails : (t : Test) (ts : List Test) → t.fails ≡ true → first (t ∷ ts) ≡ refusal t
unfolding first
first_fails t ts e = rw e

-- A test that does not fail is passed over.
pub first_passes : (t : Test) (ts : List Test) → t.fails ≡ false → first (t ∷ ts) ≡ first ts
unfolding first
first_passes t ts e = rw e

pub first_empty : first [] ≡ Accepted
unfolding first
first_empty = refl

-- No refusal is an acceptance.
pub refusal_not_accepted : (o : Outcome) {why : Refusal} → o ≡ Accepted → o ≡ Err why → ⊥
refusal_not_accepted o a e = cc

-- What is not refused is accepted.
pub not_refused : (o : Outcome) → is_refused o ≡ false → o ≡ Accepted
not_refused (Ok u) e = refl
not_refused (Err why) e = absurd (false≢true (sym e))

accepted_cons : (t : Test) (ts : List Test) → first (t ∷ ts) ≡ Accepted → (t.fails ≡ false) × (first ts ≡ Accepted)
accepted_cons t ts e =
    by_test t
    (λ f. absurd (refusal_not_accepted (first (t ∷ ts)) e (first_fails t ts f)))
    (λ f. (f, sym (first_passes t ts f) ∙ e))

-- ---- acceptance and refusal

-- Accepted exactly when no test fails.
pub accepted_exactly : (ts : List Test) → (first ts ≡ Accepted) ↔ Passed ts
accepted_exactly [] = (λ e. tt, λ p. first_empty)
accepted_exactly (t ∷ ts) = (
  λ e. let h = accepted_cons t ts e in (h.0, (accepted_exactly ts).0 h.1),
  λ p. first_passes t ts p.0 ∙ (accepted_exactly ts).1 p.1,
)

-- What stands after passed tests decides.
pub first_after : (xs ys : List Test) → first xs ≡ Accepted → first (xs ++ ys) ≡ first ys
first_after [] ys e = refl
first_after (t ∷ xs) ys e = let h = accepted_cons t xs e in first_passes t (xs ++ ys) h.0 ∙ first_after xs ys h.1

-- A refusal stands, whatever comes after it.
pub first_stands : (xs ys : List Test) → (first xs ≡ Accepted → ⊥) → first (xs ++ ys) ≡ first xs
first_stands [] ys n = absurd (n first_empty)
first_stands (t ∷ xs) ys n =
    by_test t
    (λ f. first_fails t (xs ++ ys) f ∙ sym (first_fails t xs f))
    (λ f. first_passes t (xs ++ ys) f ∙ first_stands xs ys (λ e. n (first_passes t xs f ∙ e)) ∙ sym (first_passes t xs f))

-- The first test that fails is the one that the refusal names.
pub refused_exactly : (ts : List Test) (t : Test) → FirstFailure ts t → first ts ≡ refusal t
refused_exactly ts t f =
    ap first f.split ∙ first_after f.before (t ∷ f.after) ((accepted_exactly f.before).1 f.passed)
    ∙ first_fails t f.after f.fails

-- A first failure stays one behind a test that does not fail.
later : (t : Test) (ts : List Test) (u : Test) → t.fails ≡ false → FirstFailure ts u → FirstFailure (t ∷ ts) u
later t ts u f g =
    record {
      before = t ∷ g.before;
      after = g.after;
      split = ap (λ l. t ∷ l) g.split;
      passed = (f, g.passed);
      fails = g.fails;
    }

-- Every refusal is that of the first test that fails.
pub first_failure : (ts : List Test) (why : Refusal) → first ts ≡ Err why → (t : Test) × (FirstFailure ts t × (refusal t ≡ Err why))
first_failure [] why e = absurd (refusal_not_accepted (first []) first_empty e)
first_failure (t ∷ ts) why e =
    by_test t
    (λ f. (t, (record { before = []; after = ts; split = refl; passed = tt; fails = f }, sym (first_fails t ts f) ∙ e)))
    (λ f. let (u, (g, q)) = first_failure ts why (sym (first_passes t ts f) ∙ e) in (u, (later t ts u f g, q)))

-- ---- the tests of 0, 1, …, n − 1

each_step : (h : ℕ → List Test) (i : ℕ) → each (i + 1) h ≡ each i h ++ h i
unfolding each
each_step h i = rw add-one

-- Where a loop begins, and one more turn of it.
pub each_none : (h : ℕ → List Test) → first (each 0 h) ≡ Accepted
unfolding each
each_none h = first_empty

pub each_more : (h : ℕ → List Test) (i : ℕ) → first (each i h) ≡ Accepted → first (h i) ≡ Accepted → first (each (i + 1) h) ≡ Accepted
each_more h i e f = ap first (each_step h i) ∙ first_after (each i h) (h i) e ∙ f

-- The first list of tests that is refused decides for all.
pub each_hit : (h : ℕ → List Test) (n i : ℕ) → i < n → first (each i h) ≡ Accepted → (first (h i) ≡ Accepted → ⊥)
    → first (each n h) ≡ first (h i)
unfolding each
each_hit h zero i l e x = absurd (omega arith)
each_hit h (suc n) i l e x =
    last_or_below i n l
    (λ q. first_after (each n h) (h n) (rw q at e) ∙ ap (λ j. first (h j)) (sym q))
    (λ b. let p = each_hit h n i b e x in first_stands (each n h) (h n) (λ a. x (sym p ∙ a)) ∙ p)

-- A loop that finds a refusal o at i, after all before it have passed, has found the outcome.
pub each_refused : (h : ℕ → List Test) (n i : ℕ) (o : Outcome) {why : Refusal} → i < n → first (each i h) ≡ Accepted
    → o ≡ first (h i) → o ≡ Err why → o ≡ first (each n h)
each_refused h n i o l a e f = e ∙ sym (each_hit h n i l a (λ b. refusal_not_accepted o (e ∙ b) f))

-- The same for two lists of tests one after the other.
pub first_refused : (xs ys : List Test) (o : Outcome) {why : Refusal} → o ≡ first xs → o ≡ Err why
    → o ≡ first (xs ++ ys)
first_refused xs ys o e f = e ∙ sym (first_stands xs ys (λ b. refusal_not_accepted o (e ∙ b) f))

-- And where the first list has passed: the rest decides.
pub first_rest : (xs ys : List Test) (o a : Outcome) → a ≡ first xs → a ≡ Accepted → o ≡ first ys → o ≡ first (xs ++ ys)
first_rest xs ys o a e f d = d ∙ sym (first_after xs ys (sym e ∙ f))

-- Where a loop ends, it has passed all.
pub each_end : (h : ℕ → List Test) (n i : ℕ) → first (each i h) ≡ Accepted → i ≡ n → first (each n h) ≡ Accepted
each_end h n i a e = rw e at a

-- ---- no test fails: of one test, of two lists, of 0, 1, …, n − 1

pub passed_one : (t : Test) → Passed (t ∷ []) ↔ (t.fails ≡ false)
passed_one t = (λ p. p.0, λ e. (e, tt))

pub passed_append : (xs ys : List Test) → Passed (xs ++ ys) ↔ (Passed xs × Passed ys)
passed_append [] ys = (λ p. (tt, p), λ p. p.1)
passed_append (t ∷ xs) ys = (
  λ p. let q = (passed_append xs ys).0 p.1 in ((p.0, q.0), q.1),
  λ p. (p.0.0, (passed_append xs ys).1 (p.0.1, p.1)),
)

pub passed_each : (n : ℕ) (h : ℕ → List Test) → Passed (each n h) ↔ ((i : ℕ) → i < n → Passed (h i))
unfolding each
passed_each zero h = (λ p i l. absurd (omega arith), λ p. tt)
passed_each (suc n) h = (
  λ p i l. let q = (passed_append (each n h) (h n)).0 p in last_or_below i n l (λ e. rw e q.1) (λ b. (passed_each n h).0 q.0 i b),
  λ p. (passed_append (each n h) (h n)).1 ((passed_each n h).1 (λ i l. p i (omega arith)), p n (omega arith)),
)

-- ---- what holds of every refusal

-- Where the tests refuse, P holds of the reason and the place.
pub record Refusals (P : Reason → ℕ → Type 0) (ts : List Test) : Type 0 where
  pub refused : (why : Refusal) → first ts ≡ Err why → P why.reason why.place

module _ {P : Reason → ℕ → Type 0} where
  pub refusals_none : Refusals P []
  refusals_none = record { refused = λ why e. absurd (refusal_not_accepted (first []) first_empty e) }

  pub refusals_cons : {t : Test} {ts : List Test} → P t.reason t.place → (t.fails ≡ false → Refusals P ts) → Refusals P (t ∷ ts)
  refusals_cons {t} {ts} h rest =
      record {
        refused = λ why e. by_test t
            (λ f.
            let named : refusal t ≡ Err why = sym (first_fails t ts f) ∙ e in
            let same : record { reason = t.reason; place = t.place; shortfall = t.shortfall } ≡ why = cc in
            subst (λ w. P w.reason w.place) same h)
            (λ f. (rest f).refused why (sym (first_passes t ts f) ∙ e));
      }

  -- Of two lists the second refuses only where the first has passed.
  pub refusals_append : {xs ys : List Test} → Refusals P xs → (first xs ≡ Accepted → Refusals P ys) → Refusals P (xs ++ ys)
  refusals_append {xs} {ys} f g = record { refused = λ why e. go why e (first xs) refl }
    where
      go : (why : Refusal) → first (xs ++ ys) ≡ Err why → (o : Outcome) → first xs ≡ o → P why.reason why.place
      go why e (Ok u) q = (g q).refused why (sym (first_after xs ys q) ∙ e)
      go why e (Err before) q =
          f.refused why (sym (first_stands xs ys (λ a. refusal_not_accepted (first xs) a q)) ∙ e)

  pub refusals_each : (m : ℕ) {h : ℕ → List Test} → ((i : ℕ) → i < m → Refusals P (h i)) → Refusals P (each m h)
  unfolding each
  refusals_each zero f = refusals_none
  refusals_each (suc m) f = refusals_append (refusals_each m (λ i l. f i (omega arith))) (λ a. f m (omega arith))

-- What follows from P holds of every refusal too.
pub refusals_weaken : {P Q : Reason → ℕ → Type 0} {ts : List Test} → ((r : Reason) (i : ℕ) → P r i → Q r i) → Refusals P ts → Refusals Q ts
refusals_weaken w f = record { refused = λ why e. w why.reason why.place (f.refused why e) }
