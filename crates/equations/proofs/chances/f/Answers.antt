-- `f`: what the closure gives of a record is what the record contributes by definition, at most 2^45.
use Prim.Native.Nat.{ℕ}
use native.Mathlib.Nat.{le_trans}
use native.Mathlib.Omega.{arith}
use mathlib.Core.List.{List}
use borrow.Author.Rules.{rules}
use Rattle.ppda.specs.Units.{chance_unit}
use Rattle.ppda.specs.Rules.{Push}
use Rattle.ppda.specs.Equations.{f, through}
use Rattle.model.specs.declared.sizes.Sizes.{Sizes}
use Rattle.model.proofs.Accepted.{sized_fits}
use Rattle.delivery.specs.Numbers.{uppers_of}
use Rattle.equations.proofs.Limits.{through_most}
use Rattle.equations.proofs.chances.f.Goals as goal

abbrev contributed : Sizes → List ℕ → ℕ → ℕ → Push → ℕ
contributed n d q r x = through n.states chance_unit (uppers_of n.states n.symbols d) r x q

pub sum_over_row-requires-clause-small : goal.sum_over_row-requires-clause-small
sum_over_row-requires-clause-small c = let args = c.args in
    let files = c.requires.files in
    let most = through_most _ _ (sized_fits files.0.sized).few_states files.1 args.q in
    (contributed args.n args.block.now args.q, record { given = λ i r l e. search rules; small = λ r x. le_trans (most r x) (omega arith) })

pub returns : goal.returns
unfolding f
returns c = let args = c.args in
    let files = c.requires.files in
    let most = through_most _ _ (sized_fits files.0.sized).few_states files.1 args.q in
    c.sum_over_row.ensures (contributed args.n args.block.now args.q) _ record { given = λ i r l e. search rules; small = most }
