-- `delivered`: a refusal is printed; where there is none, the register shows its files, and they are accepted.
use mathlib.Core.Path.{subst}
use Rattle.report.specs.Clauses.{HoldsText}
use Rattle.report.proofs.Printed.{delivery_refused, lines_of_held, held_accepted}
use Rattle.report.proofs.delivered.Goals as goal

pub shown-requires : goal.shown-requires
shown-requires c = held_accepted _ _ c.requires c.file_delivery-received.ensures _ c.in-Ok.is

pub returns-in-Ok : goal.returns-in-Ok
returns-in-Ok c = subst (HoldsText _) (lines_of_held _ _ c.requires c.file_delivery-received.ensures _ c.in-Ok.is) c.shown.ensures

pub returns-in-Err : goal.returns-in-Err
returns-in-Err c = subst (HoldsText _) (delivery_refused _ _ c.requires c.file_delivery-received.ensures _ c.in-Err.is) c.refusal.ensures
