-- The laws of f: of the chance within n steps it lies between n + 1 steps and 2 n + 1, and it grows with its vector, whatever the scales.
use Prim.Native.Nat.{ℕ, suc, ◌+◌, ◌*◌, ◌^◌, ◌≤◌, ◌<◌}
use native.Mathlib.Nat.{le_refl, le_of_eq, mul-le-mul, mul-le-mul_left}
use native.Mathlib.Omega.{arith}
use mathlib.Core.List.{List, [], ◌∷◌, ◌++◌}
use lib.Pow.{pow-add}
use Rattle.walks.specs.Sums.{In}
use Rattle.ppda.specs.Rules.{Rule, Push, nothing, one, two, pushed, Below, IsModel}
use Rattle.ppda.specs.Chances.{chance_from, chance}
use Rattle.ppda.specs.Equations.{Vector, through, f}
use Rattle.walks.proofs.Sums.{sum_to_scaled}
use Rattle.ppda.proofs.Rows.{row_mono, row_mul, row_scaled}
use Rattle.ppda.proofs.Steps.{chance_empty, chance_step}
use Rattle.ppda.proofs.Stacks.{followed, chance_grows_by, chance_split, chance_join}

-- v/d ≤ u/e at every entry of s states and g symbols.
abbrev pub Under : (s g d e : ℕ) → Vector → Vector → Type 0
Under s g d e v u = (p z q : ℕ) → p < s → z < g → q < s → v p z q * e ≤ u p z q * d

module _ (m : List Rule) (s g : ℕ) (model : IsModel s g m) where
  pub targets : (r : Rule) → In r m → r.target < s
  targets r i = (model.rule r i).target

  -- One step more than n is at most f of n steps.
  pub chance_step_le_f : (n p z q : ℕ) → 65536 ^ n * chance m (suc n) p z q ≤ f m s (65536 ^ n) (chance m n) p z q
  unfolding f followed
  chance_step_le_f n p z q =
      simp (chance_step m, ← row_mul m p z) (row_mono m p z _ _ (λ r i. each r.target r.push (targets r i)))
    where
      each : (r : ℕ) (a : Push) → r < s → 65536 ^ n * chance_from m n r (pushed a ++ []) q ≤ through s (65536 ^ n) (chance m n) r a q
      each r nothing hr = simp (chance_empty m) (omega arith)
      each r (one y) hr = le_refl _
      each r (two y x) hr = chance_split m s targets n r (y ∷ []) (x ∷ []) q hr

  -- f of n steps is at most 2 n + 1 steps.
  pub f_le_chance : (n p z q : ℕ) → f m s (65536 ^ n) (chance m n) p z q ≤ chance m (suc (n + n)) p z q
  unfolding f followed
  f_le_chance n p z q =
      simp (chance_step m) (row_mono m p z _ _ (λ r i. each r.target r.push (targets r i)))
    where
      each : (r : ℕ) (a : Push) → r < s → through s (65536 ^ n) (chance m n) r a q ≤ chance_from m (n + n) r (pushed a ++ []) q
      each r nothing hr = simp (chance_empty m, pow-add) (omega arith)
      each r (one y) hr = chance_grows_by m n n r (y ∷ []) q
      each r (two y x) hr = chance_join m s targets n n r (y ∷ []) (x ∷ []) q hr

  through_grows : (d e : ℕ) (v u : Vector) → Under s g d e v u → (r : ℕ) (a : Push) (q : ℕ) → r < s → Below g (pushed a) → q < s
      → through s d v r a q * (e * e) ≤ through s e u r a q * (d * d)
  through_grows d e v u le r nothing q hr ha hq = le_of_eq (omega arith)
  through_grows d e v u le r (one y) q hr ha hq = omega (arith, mul-le-mul_left (d * e) (le r y q hr ha.0 hq))
  through_grows d e v u le r (two y x) q hr ha hq =
      sum_to_scaled (e * e) (d * d) _ _ s
      (λ t ht. omega (arith, mul-le-mul (le r y t hr ha.0 ht) (le t x q ht ha.1.0 hq)))

  -- f grows with its vector.
  pub f_grows : (d e : ℕ) (v u : Vector) → Under s g d e v u → (p z q : ℕ) → q < s
      → f m s d v p z q * (e * e) ≤ f m s e u p z q * (d * d)
  unfolding f
  f_grows d e v u le p z q hq =
      row_scaled m p z (e * e) (d * d) _ _
      (λ r i. let k = model.rule r i in through_grows d e v u le r.target r.push q k.target k.push hq)
