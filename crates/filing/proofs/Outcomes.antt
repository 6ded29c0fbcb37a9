-- What an outcome says of the register and the file, as the code finds it and as callers use it.
use Prim.Native.Nat.{ℕ}
use native.Mathlib.Omega.{arith}
use mathlib.Core.Bool.{true, false}
use mathlib.Core.List.{List}
use mathlib.Core.Path.{◌≡◌}
use lib.ListN.{take}
use Rattle.wellformed.specs.Verdict.{model_verdict}
use Rattle.verdict.specs.Verdict.{verdict}
use Rattle.delivery.specs.declared.shape.Shape.{Shape}
use Rattle.held.specs.declared.HeldModel.{HeldModel}
use Rattle.held.specs.Held.{holds_model, is_held}
use Rattle.filing.specs.Outcomes.{model_outcome, file_of, delivery_outcome, merge_outcome}
use lib.IntN.{pos}
use Rattle.outcome.specs.declared.Reason.TheVariants.{ModelHeld}
use Rattle.outcome.specs.Outcomes.{Accepted, Refused}
use Rattle.std.specs.Prelude.{Option}

-- Where a model is held, a model file is refused; where none is held, it is judged.
pub model_held_lem : (n : ℕ) (b : List ℕ) → holds_model n ≡ true → model_outcome n b ≡ Refused ModelHeld 0 (pos 0)
unfolding model_outcome
model_held_lem n b e = rw e

pub model_judged : (n : ℕ) (b : List ℕ) → holds_model n ≡ false → model_outcome n b ≡ model_verdict b
unfolding model_outcome
model_judged n b e = rw e

-- ---- what acceptance says

pub model_passed : (n : ℕ) (b : List ℕ) → model_outcome n b ≡ Accepted → (holds_model n ≡ false) × (model_verdict b ≡ Accepted)
unfolding model_outcome
model_passed n b e = grind arith

pub delivery_passed : (m : HeldModel) (d : List ℕ) → delivery_outcome m d ≡ Accepted
    → (holds_model m.length ≡ true) × (verdict (take m.length m.bytes) d ≡ Accepted)
unfolding delivery_outcome file_of
delivery_passed m d e = grind arith

-- A merge that passes finds a model and a delivery held, and the second delivery passes.
pub merge_passed : (m : HeldModel) (y : Option Shape) (d : List ℕ) → merge_outcome m y d ≡ Accepted
    → (holds_model m.length ≡ true) × (is_held y ≡ true) × (verdict (take m.length m.bytes) d ≡ Accepted)
unfolding merge_outcome file_of
merge_passed m y d e = grind arith
