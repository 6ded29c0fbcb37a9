-- `check`: the loop returns at the first row whose sum is not 65,536, after every row before it has passed; each row starts where the one before
-- it ends.
use native.Mathlib.Omega.{arith}
use mathlib.Core.Path.{◌≡◌, sym, ap, ◌∙◌}
use borrow.Author.Rules.{rules}
use Rattle.outcome.proofs.Tests.{each_none, each_more, each_hit, refusal_not_accepted, each_end}
use Rattle.walks.specs.Order.{rows_in}
use Rattle.model.specs.declared.sizes.Sizes.{Sizes}
use Rattle.model.specs.Rules.{row_sum}
use Rattle.model.specs.Records.{symbols_of}
use Rattle.wellformed.specs.Verdict.{rows_tests}
use Rattle.wellformed.proofs.Sums.{starts_first}
use Rattle.wellformed.proofs.Verdict.{row_fails, row_passes}
use Rattle.model.proofs.Records.{sizes_fit}
use Rattle.wellformed.proofs.row_sums.check.Goals as goal

pub rows-rows-requires : goal.rows-rows-requires
rows-rows-requires c = rw c.requires.2 (sizes_fit _ c.requires.0.right)

pub loop-k-init : goal.loop-k-init
loop-k-init c = (
  c.rows-rows.ensures.1,
  c.rows-rows.ensures.0 ∙ ap (λ (n : Sizes). rows_in n.states n.symbols) c.requires.2,
  each_none _,
  starts_first,
)

pub returns-then-row-ne-WEIGHT_UNIT : goal.returns-then-row-ne-WEIGHT_UNIT
unfolding rows_tests
returns-then-row-ne-WEIGHT_UNIT c =
    let sum-found : let model = c.args.model.now in c.sum_of_row-row.result.sum ≡ row_sum model (symbols_of model) c.loop-k.k = let start = c in c.sum_of_row-row.ensures.0 ∙ ap (λ (n : Sizes). row_sum start.args.model.now n.symbols c.loop-k.k) start.requires.2 in
    let fails = row_fails _ _ (λ e. c.if-row-ne-WEIGHT_UNIT.true (sum-found ∙ e)) in
    c.refused.ensures
    ∙ sym (each_hit _ _ _ (omega arith) c.loop-k.invariant.2 (λ a. refusal_not_accepted _ a fails) ∙ fails)

pub loop-k-preserved : goal.loop-k-preserved
loop-k-preserved c =
    let sum-found : let model = c.args.model.now in c.sum_of_row-row.result.sum ≡ row_sum model (symbols_of model) c.loop-k.k = let start = c in c.sum_of_row-row.ensures.0 ∙ ap (λ (n : Sizes). row_sum start.args.model.now n.symbols c.loop-k.k) start.requires.2 in (
      search rules,
      search rules,
      each_more _ _ c.loop-k.invariant.2 (row_passes _ _ (sym (sum-found) ∙ c.if-row-ne-WEIGHT_UNIT.false)),
      c.sum_of_row-row.ensures.1,
    )

pub returns : goal.returns
unfolding rows_tests
returns c = sym (each_end _ _ _ c.loop-k.invariant.2 (omega arith))
