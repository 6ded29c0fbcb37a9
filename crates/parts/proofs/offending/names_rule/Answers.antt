-- `names_rule`: the test is the definition's.
use mathlib.Core.Path.{refl}
use Rattle.parts.specs.Parts.{names_rule}
use Rattle.parts.proofs.offending.names_rule.Goals as goal

pub returns : goal.returns
unfolding names_rule
returns c = refl
