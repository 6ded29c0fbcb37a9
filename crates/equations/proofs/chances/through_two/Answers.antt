-- `through_two`: what the closure gives is the definition's product, at most 2^42.
use Prim.Native.Nat.{◌^◌, ◌≤◌}
use native.Mathlib.Nat.{mul-le-mul}
use native.Mathlib.Omega.{arith}
use mathlib.Core.Path.{◌≡◌}
use borrow.Author.Rules.{rules}
use Rattle.rows.proofs.Sums.{sum_most}
use Rattle.equations.specs.Clauses.{product}
use Rattle.equations.proofs.Limits.{upper_most}
use Rattle.equations.proofs.chances.through_two.Goals as goal

pub sum_over_states-requires-clause-small : goal.sum_over_states-requires-clause-small
sum_over_states-requires-clause-small c t r l e = let pre = c.requires in
    let args = c.args in
    let is : r ≡ product args.n.states args.n.symbols args.block.now args.r args.y args.x args.q t = search rules in
    let most : product args.n.states args.n.symbols args.block.now args.r args.y args.x args.q t ≤ 2 ^ 42 = mul-le-mul (upper_most pre.sizes.1 _ _ _ _ _) (upper_most pre.sizes.1 _ _ _ _ _) in
    omega arith

pub returns : goal.returns
returns c = let pre = c.requires in
    let args = c.args in
    let is = c.sum_over_states.ensures (product args.n.states args.n.symbols args.block.now args.r args.y args.x args.q) (λ t r l e. search rules) in
    (is, rw is (sum_most _ _ (2 ^ 42) pre.sizes.0.few_states (λ t. mul-le-mul (upper_most pre.sizes.1 _ _ _ _ _) (upper_most pre.sizes.1 _ _ _ _ _))))
