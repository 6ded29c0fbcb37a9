-- `record_at`: a whole record lies within the file, so that its places fit.
use mathlib.Core.Bool.{true}
use mathlib.Core.Path.{◌≡◌, sym, ◌∙◌}
use native.Mathlib.Omega.{arith}
use Rattle.parts.specs.Parts.{is_whole}
use Rattle.parts.proofs.Wholes.{whole_fits, whole_lies, none_lies}
use Rattle.parts.proofs.record.record_at.Goals as goal

pub overflow_mul-start : goal.overflow_mul-start
overflow_mul-start c =
    let whole : let args = c.args in is_whole args.kind args.file.now args.i ≡ true =
    sym c.is_whole.ensures ∙ c.if-is_whole.true in
    omega (arith, whole_fits _ _ _ c.size_of-size.ensures whole)

pub overflow_add-end : goal.overflow_add-end
overflow_add-end c =
    let whole : let args = c.args in is_whole args.kind args.file.now args.i ≡ true =
    sym c.is_whole.ensures ∙ c.if-is_whole.true in
    omega (arith, whole_fits _ _ _ c.size_of-size.ensures whole)

pub slice_bounds-result-end : goal.slice_bounds-result-end
slice_bounds-result-end c =
    let whole : let args = c.args in is_whole args.kind args.file.now args.i ≡ true =
    sym c.is_whole.ensures ∙ c.if-is_whole.true in
    whole_fits _ _ _ c.size_of-size.ensures whole

pub returns-then-is_whole : goal.returns-then-is_whole
returns-then-is_whole c =
    let whole : let args = c.args in is_whole args.kind args.file.now args.i ≡ true =
    sym c.is_whole.ensures ∙ c.if-is_whole.true in
    whole_lies _ _ _ c.size_of-size.ensures whole

pub returns : goal.returns
returns c = none_lies _ _ _ (sym c.is_whole.ensures ∙ c.if-is_whole.false)
