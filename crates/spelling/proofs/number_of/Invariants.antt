use Rattle.std.proofs.Common.{◌≡◌, ◌^◌, ◌<◌, drop}
use Rattle.spelling.specs.Clauses.{number_as}
use Rattle.spelling.proofs.Words.{number_on}
use Rattle.spelling.proofs.number_of.Given as goal

abbrev pub invariant-loop-digit : goal.invariant-loop-digit
invariant-loop-digit l = (l.n < 10 ^ l.digit-index) × (number_as l.word ≡ number_on l.n (drop l.digit-index l.word))
