-- The self-test (document 01, "Model W": filed in the program's self-test before any file).
use Rattle.std.specs.Prelude.{Bool, not, ◌&&◌, take}
use Rattle.model.specs.W.{w_file}
use Rattle.register.specs.declared.Filed.{Filed}
use Rattle.register.specs.Filing.{cleared, file_model}
use Rattle.report.specs.declared.self_test.Filings.{Filings}
use Rattle.outcome.specs.Outcomes.{is_refused}

abbrev pub filings : Filed → Filed → Filings
filings whole cut = record { whole = whole; cut = cut }

-- W, and W without its last byte, each filed in a cleared register.
unfoldable pub test_filed : Filings
test_filed = filings (file_model cleared w_file) (file_model cleared (take 39 w_file))

-- The test passes where the first is accepted and the second is not.
abbrev pub passed : Filings → Bool
passed t = not (is_refused t.whole.outcome) && is_refused t.cut.outcome
