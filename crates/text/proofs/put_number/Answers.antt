-- `put_number`: the digits that `io::decimal` gives are the number in decimal.
use native.Mathlib.Omega.{arith}
use mathlib.Core.Path.{◌∙◌}
use Rattle.text.proofs.Decimals.{fewest_most, fewest_decimal}
use Rattle.text.proofs.Puts.{put_as}
use Rattle.text.proofs.put_number.Goals as goal

pub returns : goal.returns
returns c = let told = c.decimal-k in
    let n = c.args.n in (
      put_as (told.ensures.digits ∙ fewest_decimal n told.result (omega arith) told.ensures.len) c.put.ensures,
      omega (arith, fewest_most n told.result (omega arith) told.ensures.len),
    )
