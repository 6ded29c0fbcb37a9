-- `steps_through`: by how many symbols the record pushes, as in the definition.
use native.Mathlib.Omega.{arith}
use Rattle.model.proofs.Accepted.{record_names}
use Rattle.equations.proofs.steps.steps_through.Goals as goal

pub mean-requires-clause-inside : goal.mean-requires-clause-inside
mean-requires-clause-inside c = let pre = c.requires in
    let names = record_names pre.files.0 pre.inside in
    (omega arith, omega arith)

pub mean-requires-in_default-clause-inside : goal.mean-requires-in_default-clause-inside
mean-requires-in_default-clause-inside c = let pre = c.requires in
    let names = record_names pre.files.0 pre.inside in
    (omega arith, omega arith)

pub steps_two-requires-clause-inside : goal.steps_two-requires-clause-inside
steps_two-requires-clause-inside c = let pre = c.requires in
    let names = record_names pre.files.0 pre.inside in
    (omega arith, omega arith, omega arith)
