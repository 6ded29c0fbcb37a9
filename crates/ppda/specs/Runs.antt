-- Runs, as lists of rules each for the state and the top at hand (document 01, "Equations"; the paths of document 001, section III.C), and
-- sums over all runs of a length.
use Rattle.std.specs.Prelude.{ℕ, suc, ◌-◌, ◌*◌, ◌^◌, cond, List, [], ◌∷◌, ◌++◌}
use Rattle.std.proofs.Math.Option.{Option, none, some}
use Rattle.walks.specs.Sums.{sum, sum_to}
use Rattle.walks.specs.Lists.{lists}
use Rattle.ppda.specs.Units.{weight_unit}
use Rattle.ppda.specs.Rules.{Rule, fits, pushed}

-- A configuration: a state and a stack, top first.
pub data Config : Type 0 where
  at : (state : ℕ) (stack : List ℕ) → Config

-- The configuration after a list of rules from state p with the stack σ. There is none where a rule is not for the state and
-- the top at hand, or where the stack is empty and the list goes on: such a list is no run.
unfoldable pub after : ℕ → List ℕ → List Rule → Option Config
after p σ [] = some (at p σ)
after p [] (r ∷ l) = none
after p (z ∷ σ) (r ∷ l) = cond (fits r p z) (after r.target (pushed r.push ++ σ) l) none

-- The product of a list's weights: over 65536 ^ j, the product of the chances of its j rules.
unfoldable pub weigh : List Rule → ℕ
weigh [] = 1
weigh (r ∷ l) = r.weight * weigh l

-- The sum, over all lists of j rules, of the product of the weights times what h makes of the list and of where it leads.
unfoldable pub over_runs : (List Rule → Option Config → ℕ) → List Rule → ℕ → ℕ → List ℕ → ℕ
over_runs h m j p σ = sum (λ l. weigh l * h l (after p σ l)) (lists m j)

-- The same over all lists of at most n rules, over 65536 ^ n: a list of j rules counts 65536 ^ (n − j) times.
unfoldable pub over_runs_within : (List Rule → Option Config → ℕ) → List Rule → ℕ → ℕ → List ℕ → ℕ
over_runs_within h m n p σ = sum_to (λ j. weight_unit ^ (n - j) * over_runs h m j p σ) (suc n)
