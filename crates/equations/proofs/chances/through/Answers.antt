-- `through`: by how many symbols the record pushes, as in the definition.
use Prim.Native.Nat.{◌≤◌}
use native.Mathlib.Omega.{arith}
use mathlib.Core.Path.{sym, ◌∙◌}
use Rattle.ppda.specs.Units.{most_chance}
use Rattle.model.proofs.Accepted.{record_names}
use Rattle.rows.proofs.Sums.{pushes_one}
use Rattle.equations.proofs.Limits.{upper_most}
use Rattle.equations.proofs.chances.through.Goals as goal

pub value-requires-clause-inside : goal.value-requires-clause-inside
value-requires-clause-inside c = let pre = c.requires in
    let names = record_names pre.sizes.0 pre.inside.0 in
    (omega arith, omega arith, pre.inside.1)

pub returns-in-1 : goal.returns-in-1
returns-in-1 c =
    let value-most : c.value.result ≤ most_chance = rw c.value.ensures.0 (upper_most c.requires.sizes.1 _ _ _ _ _) in (
      rw (pushes_one _ _ _ (sym c.pushes.ensures.0 ∙ c.in-1.is))
          (rw (c.value.ensures.0, c.top.ensures.0, c.target-r.ensures.0)),
      omega (arith, value-most),
    )

pub through_two-requires-clause-inside : goal.through_two-requires-clause-inside
through_two-requires-clause-inside c = let pre = c.requires in
    let names = record_names pre.sizes.0 pre.inside.0 in
    (omega arith, omega arith, omega arith, pre.inside.1)
