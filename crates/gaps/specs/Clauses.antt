-- u − f(u) of the entries, as the code lists them.
use Rattle.std.specs.Prelude.{ℕ, List}
use Rattle.ppda.specs.Equations.{entries, Same}
use Rattle.model.specs.declared.sizes.Sizes.{Sizes}
use Rattle.shares.specs.Gap.{gap_at}

-- The list has u − f(u) of the entries, in file order.
abbrev pub Gaps : List ℕ → Sizes → List ℕ → List ℕ → Type 0
Gaps b n d l = Same n.states n.symbols (entries n.states n.symbols l) (gap_at b n.states n.symbols d)
