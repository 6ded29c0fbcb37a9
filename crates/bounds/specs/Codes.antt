-- What the calls for C hosts return (document 01: "The first two return number × 65,536 + place, or 0 when accepted").
use Rattle.std.specs.Prelude.{ℕ, ◌+◌, ◌*◌, ℤ, pos, Err, Ok}
use Rattle.outcome.specs.Reasons.{number_of}
use Rattle.outcome.specs.Outcomes.{Outcome}

-- An outcome as one number.
abbrev pub code_of : Outcome → ℕ
code_of (Ok u) = 0
code_of (Err why) = number_of why.reason * 65536 + why.place

-- The shortfall of an outcome.
abbrev pub shortfall_of : Outcome → ℤ
shortfall_of (Ok u) = pos 0
shortfall_of (Err why) = why.shortfall
