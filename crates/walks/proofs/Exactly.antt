-- What a test of numbers, or a combination of tests, says.
use Prim.Native.Nat.{ℕ, ◌≤◌, ◌<◌}
use mathlib.Core.Bool.{Bool, true, false, not, ◌&&◌, ◌||◌, true≢false, and-eq-true_iff}
use mathlib.Core.Logic.{◌↔◌}
use mathlib.Core.Path.{◌≡◌, refl, sym}
use lib.Dec.{eqb, leb, ltb}
use borrow.Author.Tests.{ltb-true, ltb-false, leb-true, eqb-true, not-false, lt-ltb, le-ltb, le-leb, eq-eqb}

pub lt_exactly : (m n : ℕ) → (ltb m n ≡ true) ↔ (m < n)
lt_exactly m n = (ltb-true m n, lt-ltb m n)

pub not_lt_exactly : (m n : ℕ) → (ltb m n ≡ false) ↔ (n ≤ m)
not_lt_exactly m n = (ltb-false m n, le-ltb m n)

pub le_exactly : (m n : ℕ) → (leb m n ≡ true) ↔ (m ≤ n)
le_exactly m n = (leb-true m n, le-leb m n)

pub eq_exactly : (m n : ℕ) → (eqb m n ≡ true) ↔ (m ≡ n)
eq_exactly m n = (eqb-true m n, eq-eqb m n)

-- Both of two tests hold.
pub both : {A B : Type 0} (s t : Bool) → (s ≡ true) ↔ A → (t ≡ true) ↔ B → ((s && t) ≡ true) ↔ (A × B)
both s t f g = (
  λ e. let h = (and-eq-true_iff s t).0 e in (f.0 h.0, g.0 h.1),
  λ h. (and-eq-true_iff s t).1 (f.1 h.0, g.1 h.1),
)

-- One of two tests holds: the second does where the first does not.
pub or_exactly : (s t : Bool) → ((s || t) ≡ true) ↔ (s ≡ false → t ≡ true)
or_exactly true t = (λ e f. absurd (true≢false f), λ f. refl)
or_exactly false t = (λ e f. e, λ f. f refl)

-- What is tested for holds exactly where the test does not fail.
pub not_exactly : (t : Bool) → (not t ≡ false) ↔ (t ≡ true)
not_exactly t = (not-false t, λ e. rw e)

-- One of two tests does not hold: the second does not where the first does.
pub and_fails : (s t : Bool) → ((s && t) ≡ false) ↔ (s ≡ true → t ≡ false)
and_fails true t = (λ e q. e, λ h. h refl)
and_fails false t = (λ e q. absurd (true≢false (sym q)), λ h. refl)

-- Neither of two tests holds.
pub or_fails : (s t : Bool) → ((s || t) ≡ false) ↔ ((s ≡ false) × (t ≡ false))
or_fails true t = (λ e. absurd (true≢false e), λ h. h.0)
or_fails false t = (λ e. (refl, e), λ h. h.1)

-- Two tests that hold in the same cases are the same.
pub same_test : (s t : Bool) → (s ≡ true) ↔ (t ≡ true) → s ≡ t
same_test true t f = sym (f.0 refl)
same_test false true f = f.1 refl
same_test false false f = refl
