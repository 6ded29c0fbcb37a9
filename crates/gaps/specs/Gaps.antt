-- u − f(u) of a delivery's uppers u.
use Rattle.std.specs.Prelude.{ℕ, List}
use Rattle.ppda.specs.Equations.{Vector}
use Rattle.model.specs.Records.{states_of, symbols_of}
use Rattle.shares.specs.Gap.{gap_at}

-- u − f(u) in 1/2^56, for the uppers u of the delivery d for the model b.
abbrev pub gap_of : List ℕ → List ℕ → Vector
gap_of b d = gap_at b (states_of b) (symbols_of b) d
