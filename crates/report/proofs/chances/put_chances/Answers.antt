-- `put_chances`: the text carried is the lines of the entries passed.
use Prim.Native.Nat.{◌<◌}
use native.Mathlib.Omega.{arith}
use Rattle.text.proofs.Puts.{put_as, joined_none, joined_more, joined_all, joined_as}
use mathlib.Core.Path.{ap, ◌∙◌}
use Rattle.std.proofs.lemmas.List.{get_or-take}
use lib.Seq.{length-take-le}
use Rattle.history.specs.Run.{reply_of}
use Rattle.report.specs.Printed.{chance_of, chance_lines}
use Rattle.report.proofs.Asked.{chance_by_number}
use Rattle.report.proofs.chances.put_chances.Goals as goal

pub loop-e-init : goal.loop-e-init
loop-e-init c = joined_none _ _ _ _ _

pub loop-e-preserved : goal.loop-e-preserved
loop-e-preserved c = let args = c.args in
    let e = c.loop-e.e in
    let within : e < c.entries.result = omega (arith, length-take-le c.entries.result args.gaps.now (omega arith)) in
    let read = get_or-take c.entries.result args.gaps.now e 0 within in
    let line = chance_by_number (reply_of args.register) args.gaps.now args.n.states args.n.symbols e (c.asked-chance.ensures ∙ ap (chance_of _ _ _ _) read) in
    joined_more c.loop-e.invariant c.loop-e-test.true (put_as line c.put_chance-at.ensures.0, c.put_chance-at.ensures.1)

pub returns-clause-put : goal.returns-clause-put
unfolding chance_lines
returns-clause-put c = let (text, most) = joined_all c.loop-e.invariant c.loop-e-test.false in
    joined_as _ (length-take-le _ _ (omega arith) ∙ c.entries.ensures.0) text
