-- u − f(u), which is shown of every entry (document 01, "Model W, and what the program prints").
use Rattle.std.specs.Prelude.{ℕ, ◌-◌, ◌*◌, List}
use Rattle.ppda.specs.Units.{chance_unit, sum_unit}
use Rattle.ppda.specs.Equations.{Vector, f}
use Rattle.model.specs.Rules.{rules_of}
use Rattle.delivery.specs.Numbers.{uppers_of}

-- u − f(u) at (p, z, q), in 1/2^56, for the uppers u of the block d.
unfoldable pub gap_at : List ℕ → ℕ → ℕ → List ℕ → Vector
gap_at b s g d p z q = uppers_of s g d p z q * sum_unit - f (rules_of b) s chance_unit (uppers_of s g d) p z q
