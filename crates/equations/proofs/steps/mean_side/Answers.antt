-- `mean_side`: one step, and what the closure gives of a record is what the record contributes by definition, at most 2^46 + 2^42.
use Prim.Native.Nat.{ℕ}
use native.Mathlib.Omega.{arith}
use mathlib.Core.List.{List}
use borrow.Author.Rules.{rules}
use Rattle.ppda.specs.Units.{chance_unit}
use Rattle.ppda.specs.Rules.{Push}
use Rattle.ppda.specs.Equations.{mean_side, steps_through}
use Rattle.model.specs.declared.sizes.Sizes.{Sizes}
use Rattle.model.proofs.Accepted.{sized_fits}
use Rattle.delivery.specs.Numbers.{uppers_of}
use Rattle.delivery.specs.Clauses.{rows_of_block}
use Rattle.equations.proofs.Limits.{steps_most}
use Rattle.equations.proofs.steps.mean_side.Goals as goal

abbrev contributed : Sizes → List ℕ → List ℕ → ℕ → Push → ℕ
contributed n u e = steps_through n.states chance_unit (uppers_of n.states n.symbols u) (rows_of_block n.symbols e)

pub sum_over_row-requires-clause-small : goal.sum_over_row-requires-clause-small
sum_over_row-requires-clause-small c = let args = c.args in
    let files = c.requires.files in
    let most = steps_most _ _ (sized_fits files.0.sized).few_states files.1 files.2 in
    (contributed args.n args.uppers.now args.means.now, record { given = λ i r l e. search rules; small = most })

pub overflow_add-result : goal.overflow_add-result
overflow_add-result c = let args = c.args in
    let files = c.requires.files in
    let most = steps_most _ _ (sized_fits files.0.sized).few_states files.1 files.2 in
    let so = c.sum_over_row.ensures (contributed args.n args.uppers.now args.means.now) _ record { given = λ i r l e. search rules; small = most } in
    omega (arith, so.1)

pub returns : goal.returns
unfolding mean_side
returns c = let args = c.args in
    let files = c.requires.files in
    let most = steps_most _ _ (sized_fits files.0.sized).few_states files.1 files.2 in
    let so = c.sum_over_row.ensures (contributed args.n args.uppers.now args.means.now) _ record { given = λ i r l e. search rules; small = most } in
    (omega (arith, so.0), omega (arith, so.1))
