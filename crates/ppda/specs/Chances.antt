-- The chance of returning within n steps, and the mean of steps counted no further than n (document 01, "Equations"): exact
-- sums over runs, without the equations. Each is a whole number over 65536 ^ n.
use Rattle.std.specs.Prelude.{ℕ, zero, suc, ◌+◌, ◌*◌, ◌^◌, List, [], ◌∷◌, ◌++◌, eqb, length}
use Rattle.std.proofs.Math.Option.{Option, none, some}
use Rattle.walks.specs.Sums.{bit, sum_to}
use Rattle.ppda.specs.Units.{weight_unit}
use Rattle.ppda.specs.Rules.{Rule, over_row, pushed}
use Rattle.ppda.specs.Runs.{Config, at, over_runs, over_runs_within}

-- 1 where the run has emptied the stack in state q, else 0.
abbrev pub returned_in : ℕ → Option Config → ℕ
returned_in q none = 0
returned_in q (some (at p [])) = bit (eqb p q)
returned_in q (some (at p (z ∷ σ))) = 0

-- 1 where the run has emptied the stack, else 0.
abbrev pub returned : Option Config → ℕ
returned none = 0
returned (some (at p [])) = 1
returned (some (at p (z ∷ σ))) = 0

-- 1 where the run has not emptied the stack, else 0.
abbrev pub under_way : Option Config → ℕ
under_way none = 0
under_way (some (at p [])) = 0
under_way (some (at p (z ∷ σ))) = 1

-- From state p with the stack σ: the chance of emptying the stack in q within n steps, over 65536 ^ n.
unfoldable pub chance_from : List Rule → ℕ → ℕ → List ℕ → ℕ → ℕ
chance_from m n p σ q = over_runs_within (λ l c. returned_in q c) m n p σ

-- The chance of the entry (p, z, q) within n steps. "Entry" is document 01's term, and "exit" the mission's, for the return chance [pZ|q]
-- of document 001.
abbrev pub chance : List Rule → ℕ → ℕ → ℕ → ℕ → ℕ
chance m n p z q = chance_from m n p (z ∷ []) q

-- The chances of having returned within n steps from row (p, z), summed over all exits of a model with s states (request A.7). They come to the chance of the runs
-- that have returned, in whatever state (law `returned_by_exits`).
abbrev pub returned_within : List Rule → ℕ → ℕ → ℕ → ℕ → ℕ
returned_within m s n p z = sum_to (λ q. chance m n p z q) s

-- The same chance by its first step, as for a Markov chain of configurations. It equals `chance_from` (theorem `chance_by_step_lem`).
unfoldable pub chance_by_step : List Rule → ℕ → ℕ → List ℕ → ℕ → ℕ
chance_by_step m zero p [] q = bit (eqb p q)
chance_by_step m zero p (z ∷ σ) q = 0
chance_by_step m (suc n) p [] q = weight_unit ^ suc n * bit (eqb p q)
chance_by_step m (suc n) p (z ∷ σ) q = over_row m p z (λ r. chance_by_step m n r.target (pushed r.push ++ σ) q)

-- From state p with the stack σ: the sum of each run's product of chances times what it counts, over the runs that return
-- within n steps and the runs of exactly n steps that have not returned, over 65536 ^ n.
unfoldable pub counted : (List Rule → ℕ) → List Rule → ℕ → ℕ → List ℕ → ℕ
counted count m n p σ =
    over_runs_within (λ l c. count l * returned c) m n p σ + over_runs (λ l c. count l * under_way c) m n p σ

-- The mean of steps from row (p, z), counted no further than n: each run counts its steps.
abbrev pub mean : List Rule → ℕ → ℕ → ℕ → ℕ
mean m n p z = counted (λ l. length l) m n p (z ∷ [])

-- The total mass of the runs that the mean counts: each run counts 1.
abbrev pub mass : List Rule → ℕ → ℕ → ℕ → ℕ
mass m n p z = counted (λ l. 1) m n p (z ∷ [])
