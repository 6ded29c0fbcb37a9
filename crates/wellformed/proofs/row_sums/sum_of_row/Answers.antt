-- `sum_of_row`: every record passed is of the row or an earlier one, and the records ascend, so that the row ends at the first of another row.
use native.Mathlib.Omega.{arith}
use mathlib.Core.Path.{◌≡◌, sym, ap, ◌∙◌}
use Rattle.model.specs.declared.sizes.Sizes.{Sizes}
use Rattle.model.specs.Rules.{row_of}
use Rattle.wellformed.proofs.Sums.{record_in_row, sum_none, sum_more, sum_within, sum_stopped, sum_ended}
use Rattle.wellformed.proofs.row_sums.sum_of_row.Goals as goal

pub loop-at-init : goal.loop-at-init
loop-at-init c = let start = c.requires.start in
    (c.records-end.ensures, sum_none start)

pub row-requires : goal.row-requires
row-requires c = let file = c.requires.file in
    let row = record_in_row _ file.0 file.2 c.loop-at.at (omega arith) in
    (row.0, rw c.state.ensures.0 row.1, rw c.symbol.ensures.0 row.2)

pub returns-then-row-k : goal.returns-then-row-k
unfolding row_of
returns-then-row-k c =
    let row_read : c.row.result ≡ row_of c.args.model.now c.args.n.symbols c.loop-at.at = rw (c.row.ensures.0, c.symbol.ensures.0, c.state.ensures.0) in
    let pre = c.requires in
    sum_stopped c.loop-at.invariant.1 pre.file.1 (ap (λ (n : Sizes). n.symbols) pre.file.2) pre.start (omega arith)
    (λ e. c.if-row-k.true (row_read ∙ e))

pub overflow_add-sum : goal.overflow_add-sum
overflow_add-sum c = let turn = c in
    let right = turn.requires.file.0 in
    omega (arith, sum_within turn.loop-at.invariant.1 right, right.most)

pub loop-at-preserved : goal.loop-at-preserved
unfolding row_of
loop-at-preserved c =
    let row_read : c.row.result ≡ row_of c.args.model.now c.args.n.symbols c.loop-at.at = rw (c.row.ensures.0, c.symbol.ensures.0, c.state.ensures.0) in
    let inv = c.loop-at.invariant in
    (inv.0, sum_more inv.1 (omega arith) (sym (row_read) ∙ c.if-row-k.false) c.weight-sum.ensures.0)

pub returns : goal.returns
returns c =
    let all : c.loop-at.at ≡ c.records-end.result = omega (arith, c.loop-at.invariant.1.within) in
    rw all at (sum_ended c.loop-at.invariant.1 (omega arith))
