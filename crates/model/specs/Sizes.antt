-- How large a model is: its states and symbols.
use Rattle.std.specs.Prelude.{ℕ, List}
use Rattle.model.specs.declared.sizes.Sizes.{Sizes}
use Rattle.model.specs.Records.{states_of, symbols_of}

-- The states and symbols of a model file as one value.
abbrev pub sizes_of : List ℕ → Sizes
sizes_of b = record { states = states_of b; symbols = symbols_of b }
