-- k rounds of f from zero, exact: they count 1/65536^(2^k − 1), and are at most the chance within 2^k − 1 steps (document 01, "Mistakes of
-- method": "k rounds hold runs of up to 2^k − 1 steps").
use Prim.Native.Nat.{ℕ, zero, suc, ◌^◌, ◌≤◌, ◌<◌, zero-le}
use native.Mathlib.Nat.{le_trans, le_of_mul-le-mul_right, mul-le-mul_right, mul-pos}
use mathlib.Core.List.{List}
use mathlib.Core.Path.{◌≡◌, refl, sym}
use Rattle.ppda.specs.Rules.{Rule, IsModel}
use Rattle.ppda.specs.Chances.{chance}
use Rattle.ppda.specs.Live.{scale, rounds}
use Rattle.ppda.specs.Bounds.{steps_of}
use Rattle.ppda.proofs.Equations.{f_grows, f_le_chance}
use Rattle.ppda.proofs.Upper.{power_positive}
use Rattle.ppda.proofs.Lower.{steps_suc, scale_suc}

pub scale_is : (k : ℕ) → scale k ≡ 65536 ^ steps_of k
unfolding scale steps_of
scale_is zero = refl
scale_is (suc k) = rw (scale_is k) (sym (scale_suc k))

pub rounds_le_chance : (m : List Rule) (s g : ℕ) → IsModel s g m → (k p z q : ℕ) → p < s → z < g → q < s
    → rounds m s k p z q ≤ chance m (steps_of k) p z q
unfolding rounds
rounds_le_chance m s g model zero p z q hp hz hq = zero-le
rounds_le_chance m s g model (suc k) p z q hp hz hq =
    rw (steps_suc k, scale_is k)
    (le_trans
    (le_of_mul-le-mul_right
    (f_grows m s g model (65536 ^ steps_of k) (65536 ^ steps_of k) (rounds m s k) (chance m (steps_of k))
    (λ p z q hp hz hq. mul-le-mul_right (65536 ^ steps_of k) (rounds_le_chance m s g model k p z q hp hz hq)) p z q hq)
    (mul-pos (power_positive (steps_of k)) (power_positive (steps_of k))))
    (f_le_chance m s g model (steps_of k) p z q))
