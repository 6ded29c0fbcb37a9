-- `exit_in`: the entries of an exit follow those of the exits before it, one for each row, and the sizes fit.
use Prim.Native.Nat.{◌+◌, ◌*◌}
use native.Mathlib.Omega.{arith}
use mathlib.Core.Path.{◌≡◌, ap}
use Rattle.walks.specs.Order.{exit_in}
use Rattle.walks.proofs.Exits.{exit_in_below}
use Rattle.model.proofs.sizes.Sizes.exit_in.Goals as goal

pub returns : goal.returns
returns c =
    let placed : let args = c.args in args.q * c.rows.result + args.row ≡ exit_in args.self.states args.self.symbols args.row args.q = ap (λ k. c.args.q * k + c.args.row) c.rows.ensures.0 in
    let pre = c.requires in
    (omega (arith, placed), omega (arith, placed, exit_in_below _ _ _ _ pre.1 pre.2))
