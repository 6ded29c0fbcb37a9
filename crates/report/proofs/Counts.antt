-- Counts: a loop that adds one number of a sum at each turn, each at most k, has the sum at its end.
use Prim.Native.Nat.{ℕ, ◌+◌, ◌*◌, ◌≤◌, ◌<◌}
use native.Mathlib.Omega.{arith}
use mathlib.Core.Bool.{Bool, true, false}
use mathlib.Core.Path.{◌≡◌, refl, sym, ap, ap₂, ◌∙◌}
use Rattle.std.specs.Int.{from_bool}
use Rattle.walks.specs.Sums.{bit, sum_to}
use Rattle.walks.proofs.Sums.{sum_to_step}

-- After i of n turns.
pub record Counted (h : ℕ → ℕ) (k n count i : ℕ) : Type 0 where
  pub to : i ≤ n
  pub sum : count ≡ sum_to h i
  pub most : count ≤ k * i

pub counted_none : (h : ℕ → ℕ) (k n : ℕ) → Counted h k n 0 0
unfolding sum_to
counted_none h k n = record { to = omega arith; sum = refl; most = omega arith }

pub counted_more : {h : ℕ → ℕ} {k n count i r : ℕ} → Counted h k n count i → i < n → r ≡ h i → r ≤ k → Counted h k n (count + r) (i + 1)
counted_more {h} {i = i} at turn is few =
    record { to = omega arith; sum = ap₂ ◌+◌ at.sum is ∙ sym (sum_to_step h i); most = omega arith }

pub counted_same : {h : ℕ → ℕ} {k n count i : ℕ} → Counted h k n count i → i < n → 0 ≡ h i → Counted h k n count (i + 1)
counted_same {h} {i = i} at turn is = record { to = omega arith; sum = omega (arith, sum_to_step h i); most = omega arith }

pub counted_all : {h : ℕ → ℕ} {k n count i : ℕ} → Counted h k n count i → n ≤ i → (count ≡ sum_to h n) × (count ≤ k * n)
counted_all {h} {n = n} {i = i} at done = let all : i ≡ n = omega arith in (at.sum ∙ ap (sum_to h) all, rw (← all) at.most)

-- A truth value as a byte is that as a number.
byte_bit : (t : Bool) → (from_bool t ≡ bit t) × (from_bool t ≤ 1)
byte_bit true = (refl, omega arith)
byte_bit false = (refl, omega arith)

-- A turn that adds a truth value.
pub counted_bit : {h : ℕ → ℕ} {n count i r : ℕ} (t : Bool) → Counted h 1 n count i → i < n → r ≡ from_bool t → bit t ≡ h i
    → Counted h 1 n (count + r) (i + 1)
counted_bit t at turn is added = let (same, few) = byte_bit t in counted_more at turn (is ∙ same ∙ added) (omega arith)
