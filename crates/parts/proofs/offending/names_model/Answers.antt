-- `names_model`: the test is the definition's.
use mathlib.Core.Path.{refl}
use Rattle.parts.specs.Parts.{names_model}
use Rattle.parts.proofs.offending.names_model.Goals as goal

pub returns : goal.returns
unfolding names_model
returns c = refl
