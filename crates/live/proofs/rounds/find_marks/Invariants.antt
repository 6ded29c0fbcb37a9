use Rattle.std.specs.Prelude.{◌*◌, ◌-◌}
use Rattle.ppda.specs.Live.{mark}
use Rattle.model.specs.Rules.{rules_of}
use Rattle.live.specs.Clauses.{ExitsOf}
use Rattle.live.proofs.rounds.find_marks.Given as goal

abbrev pub invariant-loop-left : goal.invariant-loop-left
invariant-loop-left l =
    ExitsOf l.n.states l.n.symbols (mark (rules_of l.model) l.n.states (l.n.states * l.n.symbols * l.n.states - l._left)) l.marks
