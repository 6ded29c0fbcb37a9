-- `take_turn`: where nothing was read, the desk is as it was; else it is served what was read.
use Rattle.std.proofs.Common.{[]}
use Rattle.script.proofs.Printing.{serves_none}
use Rattle.desk.proofs.take_turn.Goals as goal

pub returns-in-Ok-eq0 : goal.returns-in-Ok-eq0
returns-in-Ok-eq0 g c = record { piece = []; replied = record { text = []; serves = serves_none _ } }

pub returns-in-Err : goal.returns-in-Err
returns-in-Err g c = record { piece = []; replied = record { text = []; serves = serves_none _ } }
