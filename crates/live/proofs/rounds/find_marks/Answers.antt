-- `find_marks`: each round is one of the theory's rounds, and marks that a round leaves as they are stay so.
use native.Mathlib.Omega.{arith}
use mathlib.Core.Path.{refl, sym, ap, ◌∙◌}
use lib.ListN.{get_or}
use Rattle.std.proofs.lemmas.Slice.Eq.{bytes_eq-Decides}
use Rattle.live.proofs.Marks.{no_exits, marks_next, marks_all, marks_unchanged, after_rounds}
use Rattle.live.proofs.rounds.find_marks.Goals as goal

pub loop-left-init : goal.loop-left-init
loop-left-init c = after_rounds _ _ _ (omega arith) (no_exits _ _ _ c.requires.1)

pub returns-then-eq : goal.returns-then-eq
returns-then-eq c =
    let same = (bytes_eq-Decides c.loop-left.marks c.round.new.next).0 (sym c.eq.ensures ∙ c.if-eq.true) in
    marks_unchanged c.requires.0.sized _ _ c.loop-left.invariant (omega arith) c.round.ensures (λ e lt. ap (λ l. get_or l e 0) same)

pub loop-left-preserved : goal.loop-left-preserved
loop-left-preserved c = after_rounds _ _ _ (omega arith) (marks_next c.requires.0.sized _ _ c.loop-left.invariant c.round.ensures c.round.ensures.size (λ e lt. refl))

pub returns : goal.returns
returns c = marks_all c.requires.0.sized _ _ c.loop-left.invariant (omega arith)
