use Rattle.merging.specs.Clauses.{KeptBy}
use Rattle.merging.proofs.kept_of.Given as goal

abbrev pub invariant-loop-e : goal.invariant-loop-e
invariant-loop-e g l = KeptBy (goal.F-post g l.rule) l.e l.a l.b l.list
