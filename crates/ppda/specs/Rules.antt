-- Probabilistic pushdown automata (document 001, section III.C; document 01, "Models"), as lists of rules.
use Rattle.std.specs.Prelude.{ℕ, ◌*◌, ◌<◌, Bool, ◌&&◌, List, [], ◌∷◌, ◌≡◌, eqb}
use Rattle.walks.specs.Sums.{bit, sum, In}
use Rattle.ppda.specs.Units.{weight_unit}

-- What a rule puts in the place of the symbol that it removes: nothing, y, or y over x.
pub data Push : Type 0 where
  nothing : Push
  one : (y : ℕ) → Push
  two : (y x : ℕ) → Push

-- The pushed symbols as a stack, the new top first.
abbrev pub pushed : Push → List ℕ
pushed nothing = []
pushed (one y) = y ∷ []
pushed (two y x) = y ∷ x ∷ []

-- In `state` with `symbol` on top, with a chance of weight/65,536: remove the symbol, go to `target` and push.
pub record Rule : Type 0 where
  pub state : ℕ
  pub symbol : ℕ
  pub target : ℕ
  pub push : Push
  pub weight : ℕ

-- The rule p z → q with what it pushes and its weight.
abbrev pub rule : ℕ → ℕ → ℕ → Push → ℕ → Rule
rule p z q a k = record { state = p; symbol = z; target = q; push = a; weight = k }

-- The rule is for state p and top z: it belongs to the row (p, z). "Row" is document 01's term for such a pair.
unfoldable pub fits : Rule → ℕ → ℕ → Bool
fits r p z = eqb r.state p && eqb r.symbol z

-- The sum over the rules of row (p, z) of the weight times h.
unfoldable pub over_row : List Rule → ℕ → ℕ → (Rule → ℕ) → ℕ
over_row m p z h = sum (λ r. bit (fits r p z) * (r.weight * h r)) m

-- Every symbol of the stack is below g.
abbrev pub Below : ℕ → List ℕ → Type 0
Below g [] = Unit {0}
Below g (z ∷ σ) = (z < g) × Below g σ

-- A rule of a model with s states and g symbols. Its chance is not 0.
pub record IsRule (s g : ℕ) (r : Rule) : Type 0 where
  pub state : r.state < s
  pub symbol : r.symbol < g
  pub target : r.target < s
  pub push : Below g (pushed r.push)
  pub weight : 0 < r.weight

-- The list of rules is a model with s states and g symbols: the weights of each row sum to 65,536. What document 01 asks of a file
-- besides (the order of its records, its length and its limits on states and symbols) has no part in the theory.
pub record IsModel (s g : ℕ) (m : List Rule) : Type 0 where
  pub rule : (r : Rule) → In r m → IsRule s g r
  pub row : (p z : ℕ) → p < s → z < g → over_row m p z (λ r. 1) ≡ weight_unit
