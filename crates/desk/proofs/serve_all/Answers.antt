-- `serve_all`: there is room for the replies to all lines, so that all bytes are taken.
use Rattle.desk.proofs.Whole.{took_all}
use Rattle.desk.proofs.serve_all.Goals as goal

pub returns : goal.returns
returns g c = took_all c.requires c.serve.ensures
