use Rattle.text.proofs.Puts.{Spaced}
use Rattle.text.proofs.put_fields.Given as goal

abbrev pub invariant-loop-n : goal.invariant-loop-n
invariant-loop-n l = Spaced l.numbers l.initial.out l.out l.initial.at l.at l.n-index
