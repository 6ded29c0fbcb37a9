-- What the code of the calls for C hosts asks of an outcome.
use Rattle.std.specs.Prelude.{ℕ, Err, Ok}
use Rattle.outcome.specs.Outcomes.{Outcome}

-- The place of a refusal.
abbrev pub place_of : Outcome → ℕ
place_of (Ok u) = 0
place_of (Err why) = why.place
