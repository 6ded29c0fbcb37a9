-- `file_w`: the two filings are those of the definition, which are made of the same table.
use Rattle.report.proofs.SelfTest.{filed_so}
use Rattle.report.proofs.self_test.file_w.Goals as goal

pub returns : goal.returns
returns c = let whole = c in
    let empty = whole in
    filed_so empty.w-w.ensures empty.empty.ensures whole.file_model-whole.ensures c.empty-2.ensures
    c.file_model-cut.ensures
