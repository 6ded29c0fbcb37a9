-- `check`: the length is tested first, then the records, then the rows, and the first part that refuses decides.
use native.Mathlib.Omega.{arith}
use mathlib.Core.Path.{◌≡◌, sym, ◌∙◌}
use mathlib.Core.Bool.{true}
use lib.ListN.{length}
use Rattle.std.proofs.lemmas.Result.{err_from_is_err_and}
use Rattle.model.proofs.Records.{sizes_all}
use Rattle.wellformed.specs.Verdict.{whole_records}
use Rattle.model.specs.Records.{records_of}
use Rattle.wellformed.proofs.Verdict.{length_decides, records_refuse, rows_decide}
use Rattle.wellformed.proofs.Accepted.{records_right, records_ascend}
use Rattle.wellformed.proofs.check.Goals as goal

pub returns-then-not-whole_records : goal.returns-then-not-whole_records
returns-then-not-whole_records c = c.refused.ensures ∙ sym (length_decides _ (sym c.whole_records.ensures ∙ c.if-not-whole_records.true))

pub check_records-requires : goal.check_records-requires
unfolding records_of
check_records-requires c = omega arith

pub returns-in_err-sizes : goal.returns-in_err-sizes
returns-in_err-sizes c =
    let whole : whole_records (length c.args.model.now) ≡ true = sym c.whole_records.ensures ∙ c.if-not-whole_records.false in
    let p = err_from_is_err_and c.from_residual.result c.from_residual.ensures.1 in
    rw (p.1, p.2) (sym (records_refuse _ whole (rw c.records.ensures at c.in_err-sizes.ensures.refused)))

pub check-requires : goal.check-requires
check-requires c =
    let whole : whole_records (length c.args.model.now) ≡ true = sym c.whole_records.ensures ∙ c.if-not-whole_records.false in
    let told = rw c.records.ensures at c.in_ok-sizes.ensures.sized in
    (records_right _ whole told.0, records_ascend _ told.0, sizes_all told.1)

pub returns : goal.returns
returns c =
    let whole : whole_records (length c.args.model.now) ≡ true = sym c.whole_records.ensures ∙ c.if-not-whole_records.false in
    let told = rw c.records.ensures at c.in_ok-sizes.ensures.sized in
    c.check.ensures ∙ sym (rows_decide _ whole told.0)
