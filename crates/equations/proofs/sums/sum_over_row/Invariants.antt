use Rattle.std.proofs.Common.{ℕ, ◌/◌, ◌%◌}
use Rattle.ppda.specs.Rules.{Push}
use Rattle.rows.proofs.Sums.{RowSum}
use Rattle.equations.specs.Clauses.{Gives}
use Rattle.equations.proofs.sums.sum_over_row.Given as goal

abbrev pub invariant-loop-i : goal.invariant-loop-i
invariant-loop-i g l = (value : ℕ → Push → ℕ) (most : ℕ) → Gives (goal.F-post g l.through) l.model value most
    → RowSum l.model l.fn.n.states l.fn.n.symbols (l.row / l.fn.n.symbols) (l.row % l.fn.n.symbols) value l.row l.initial.i l.i-end l.initial.sum l.i l.sum
