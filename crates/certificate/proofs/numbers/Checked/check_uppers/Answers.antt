-- `check_uppers`: the numbers of a side's block are tested, and that of the uppers is the strict side where lowers stand.
use Rattle.certificate.proofs.Steps.{upper_found}
use Rattle.certificate.proofs.numbers.Checked.check_uppers.Goals as goal

pub returns : goal.returns
returns c = let self = c.args.self.now in
    upper_found _ _ _ _ self.live.now self.uppers.now _ (rw c.side_of_uppers.ensures at c.check.ensures)
