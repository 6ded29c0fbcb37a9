use Rattle.std.proofs.Common.{◌≡◌, ◌-◌, length, take}
use Rattle.spelling.specs.Clauses.{arguments_in, numbers_of}
use Rattle.spelling.proofs.Rest.{after}
use Rattle.spelling.proofs.arguments.numbers_in.Given as goal

abbrev pub invariant-loop-number : goal.invariant-loop-number
invariant-loop-number g l =
    (length l.number-items ≡ g.row.N)
    × (numbers_of g.row.N (arguments_in l.rest) ≡ after (take l.number-index l.number-items) (numbers_of (g.row.N - l.number-index) (arguments_in l.left)))
