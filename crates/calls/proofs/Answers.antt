-- Answers from tests and numbers that are the same are the same, and where a test fails the number does not matter.
use Prim.Native.Nat.{ℕ}
use mathlib.Core.Bool.{Bool, true, false, ◌&&◌, false≢true}
use mathlib.Core.Path.{◌≡◌, refl, sym}
use Rattle.outcome.specs.declared.Reason.{Reason}
use Rattle.calls.specs.Answers.{answered_or, answered}

pub answered_or_same : {m m' d d' i i' k k' : Bool} {x x' : Reason} {v v' : ℕ} → m ≡ m' → d ≡ d' → i ≡ i' → k ≡ k' → x ≡ x' → v ≡ v'
    → answered_or m d i k x v ≡ answered_or m' d' i' k' x' v'
answered_or_same model delivery inside last reason value = rw (model, delivery, inside, last, reason, value)

pub answered_same : {m m' d d' i i' k k' : Bool} {v v' : ℕ} → m ≡ m' → d ≡ d' → i ≡ i' → k ≡ k' → v ≡ v'
    → answered m d i k v ≡ answered m' d' i' k' v'
answered_same model delivery inside block value = answered_or_same model delivery inside block refl value

-- A question that needs no delivery: a number is shown only where all three tests pass.
pub unasked : (m i k : Bool) (x : Reason) (v w : ℕ) → (m && (i && k)) ≡ false → answered_or m true i k x v ≡ answered_or m true i k x w
unasked false i k x v w e = refl
unasked true false k x v w e = refl
unasked true true false x v w e = refl
unasked true true true x v w e = absurd (false≢true (sym e))
