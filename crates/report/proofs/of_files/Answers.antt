-- `of_files`: a refused model is printed; one that is accepted is held, and the delivery decides.
use mathlib.Core.Path.{subst}
use Rattle.report.specs.Clauses.{HoldsText}
use Rattle.report.proofs.Printed.{model_refused, model_held_lem}
use Rattle.report.proofs.of_files.Goals as goal

pub delivered-requires : goal.delivered-requires
delivered-requires c = model_held_lem _ c.empty.ensures c.file_model-filed.ensures c.in-Ok.is

pub returns-in-Err : goal.returns-in-Err
returns-in-Err c = subst (HoldsText _) (model_refused _ c.empty.ensures c.file_model-filed.ensures _ _ c.in-Err.is) c.refusal.ensures
