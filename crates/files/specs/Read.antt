-- A report on two files by name.
use Rattle.std.specs.Prelude.{ℕ, List}
use Rattle.report.specs.declared.Printout.{Printout}
use Rattle.report.specs.Printed.{printed}
use Rattle.report.specs.Clauses.{HoldsText}

-- The printout is the report on some two byte strings: which bytes the system hands out, no contract can say.
pub record ReportOnSome (r : Printout) : Type 0 where
  pub model : List ℕ
  pub delivery : List ℕ
  pub report : HoldsText r (printed model delivery)
