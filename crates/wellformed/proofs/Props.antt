-- A record lies above another in one way at most, so that an accepted model may stand as a fact in a struct of the code.
use Prim.Native.Nat.{ℕ, ◌<◌}
use native.Mathlib.Omega.{arith}
use mathlib.Core.List.{List, [], ◌∷◌}
use mathlib.Core.Logic.{◌⊎◌, inl, inr}
use mathlib.Core.Path.{◌≡◌, ap}
use Rattle.std.proofs.Props.{props}
use Rattle.model.specs.Accepted.{Above}

one_way : {a b : ℕ} {P : Type 0} → IsProp P → IsProp ((b < a) ⊎ ((a ≡ b) × P))
one_way {a} {b} {P} rest = one
  where
    less : IsProp (b < a)
    less = hlevel props

    same : IsProp ((a ≡ b) × P)
    same = hlevel (props, rest)

    one : (x y : (b < a) ⊎ ((a ≡ b) × P)) → x ≡ y
    one (inl h) (inl k) = ap inl (less h k)
    one (inl h) (inr k) = let e = k.0 in absurd (omega arith)
    one (inr h) (inl k) = let e = h.0 in absurd (omega arith)
    one (inr h) (inr k) = ap inr (same h k)

pub above_prop : (xs ys : List ℕ) → IsProp (Above xs ys)
above_prop [] ys = λ x y. absurd x
above_prop (a ∷ xs) [] = λ x y. absurd x
above_prop (a ∷ xs) (b ∷ ys) = one_way (above_prop xs ys)
