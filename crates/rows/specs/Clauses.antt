-- Where the records of each row start.
use Rattle.std.specs.Prelude.{ℕ, ◌≤◌, List, get_or}
use Rattle.walks.specs.Order.{rows_in}
use Rattle.model.specs.declared.sizes.Sizes.{Sizes}
use Rattle.model.specs.Clauses.{StartsAt, Sized}

-- The list says where each of the n rows starts, and where the last ends.
abbrev pub Starts : List ℕ → ℕ → ℕ → List ℕ → Type 0
Starts b g n l = (k : ℕ) → k ≤ n → StartsAt b g k (get_or l k 0)

-- An accepted model with its sizes and where its rows start.
pub record Indexed (b : List ℕ) (n : Sizes) (starts : List ℕ) : Type 0 where
  pub sized : Sized b n.states n.symbols
  pub starts_at : Starts b n.symbols (rows_in n.states n.symbols) starts
