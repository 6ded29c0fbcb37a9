-- `asked`: the register's answers are its replies.
use Rattle.report.proofs.Asked.{chance_said}
use Rattle.report.proofs.chances.asked.Goals as goal

pub returns : goal.returns
returns c = chance_said c.args.register c.args.p c.args.z c.args.q c.live.ensures c.says_live.ensures c.args.gap c.lower.ensures c.upper.ensures
