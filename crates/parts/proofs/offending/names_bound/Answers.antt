-- `names_bound`: the test is the definition's.
use mathlib.Core.Path.{refl}
use Rattle.parts.specs.Parts.{names_bound}
use Rattle.parts.proofs.offending.names_bound.Goals as goal

pub returns : goal.returns
unfolding names_bound
returns c = refl
