use Prim.Native.Nat.{◌-◌}
use lib.ListN.{length}
use Rattle.questions.specs.Clauses.{Kept}
use Rattle.service.proofs.Serving.{state_by, Serving}
use Rattle.service.proofs.serve.Given as goal

abbrev pub invariant-loop-i : goal.invariant-loop-i
invariant-loop-i g l = Serving (state_by l.initial.register l.initial.line l.initial.kept) l.piece l.taken (length l.initial.out) l.out l.register l.v l.lists l.line l.kept l.at l.i
    × Kept l.v.shown.length l.sizes l.v.bytes l.starts

abbrev pub decreases-loop-i : goal.decreases-loop-i
decreases-loop-i g l = l.taken - l.i
