use Rattle.std.proofs.Common.{◌+◌, ◌*◌, ◌/◌, ◌%◌}
use Rattle.rows.proofs.Sums.{RowSum, StateSum}
use Rattle.shortruns.proofs.Laws.{after_push, pair_terms}
use Rattle.shortruns.proofs.chances.+chance_chance_of_pair.Given as goal

abbrev pub decreases-chance : goal.decreases-chance
decreases-chance l = l.steps * 2 + 1

abbrev pub decreases-chance_of_pair : goal.decreases-chance_of_pair
decreases-chance_of_pair l = l.steps * 2

abbrev pub invariant-chance-loop-i : goal.invariant-chance-loop-i
invariant-chance-loop-i l =
    RowSum l.model l.n.states l.n.symbols (l.row / l.n.symbols) (l.row % l.n.symbols) (after_push l.model l.left l.q) l.row l.start l.end 0 l.i l.sum

abbrev pub invariant-chance_of_pair-loop-k : goal.invariant-chance_of_pair-loop-k
invariant-chance_of_pair-loop-k l = StateSum (pair_terms l.model l.s l.steps l.i l.q) (l.s * l.steps) l.k l.sum
