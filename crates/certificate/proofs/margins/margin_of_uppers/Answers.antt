-- `margin_of_uppers`: the least share over the marks that are found is the margin, since they are the model's.
use Rattle.certificate.proofs.Steps.{margin_found}
use Rattle.certificate.proofs.margins.margin_of_uppers.Goals as goal

pub returns : goal.returns
returns c = margin_found c.requires.0 _ c.find_marks.ensures c.margin_of.ensures
