-- `check`: dead uppers are tested first, then the rest of the file, from record V on, and the first part that refuses decides.
use native.Mathlib.Omega.{arith}
use mathlib.Core.Path.{refl, sym, ◌∙◌}
use Rattle.std.proofs.lemmas.Result.{err_from_is_err_and}
use lib.Seq.{length-take-le}
use Rattle.model.proofs.Accepted.{sized_fits}
use Rattle.delivery.proofs.Shapes.{uppers_fit}
use Rattle.certificate.proofs.Steps.{uppers_in_range, rest_in_range, dead_uppers_decide, rest_decides}
use Rattle.certificate.proofs.numbers.check.Goals as goal

pub entries-v-requires : goal.entries-v-requires
entries-v-requires c = sized_fits c.requires.file.sized

pub slice_bounds-uppers-end : goal.slice_bounds-uppers-end
slice_bounds-uppers-end c = let whole = uppers_fit _ _ _ _ c.requires.file.of in
    sym (length-take-le _ _ (omega (arith, whole)))

pub slice_bounds-rest-count : goal.slice_bounds-rest-count
slice_bounds-rest-count c = omega (arith, uppers_fit _ _ _ _ c.requires.file.of)

pub slice_bounds-rest-start : goal.slice_bounds-rest-start
slice_bounds-rest-start c = omega (arith, uppers_fit _ _ _ _ c.requires.file.of)

pub check_dead-requires-clause-sizes : goal.check_dead-requires-clause-sizes
check_dead-requires-clause-sizes c =
    let pre = c.requires in
    (sized_fits pre.file.sized, (uppers_in_range _ _ _ pre.file.of pre.layout c.entries-v.ensures.0).whole)

pub returns-in_err-check_dead : goal.returns-in_err-check_dead
returns-in_err-check_dead c =
    let p = err_from_is_err_and c.from_residual.result c.from_residual.ensures.1 in
    rw (p.1, p.2)
    (dead_uppers_decide c.requires.file.sized _ _ c.entries-v.ensures.0 c.find_marks.ensures _ (sym c.in_err-check_dead.was ∙ c.check_dead.ensures) refl)

pub invariant_of-checked : goal.invariant_of-checked
invariant_of-checked c =
    let pre = c.requires in
    let e = c.entries-v.ensures.0 in
    record {
      right = record {
        indexed = c.find_starts.ensures.0;
        uppers = uppers_in_range _ _ _ pre.file.of pre.layout e;
        read = rest_in_range _ _ _ pre.file.of pre.layout e;
      };
    }

pub returns : goal.returns
returns c =
    rest_decides c.requires.file.sized _ _ c.entries-v.ensures.0 c.find_marks.ensures _ _
    c.check_dead.ensures c.in_ok-check_dead.was c.check_rest.ensures
