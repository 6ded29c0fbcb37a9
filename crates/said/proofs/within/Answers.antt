-- `within`: the question is asked where the rest has its numbers, which are the question's in their order.
use Rattle.calls.specs.declared.Question.TheVariants.{Within}
use Rattle.said.proofs.Rest.{steps_found}
use Rattle.said.proofs.within.Goals as goal

pub returns-in-Some : goal.returns-in-Some
returns-in-Some c = steps_found _ Within c.in-Some.ensures

pub returns-in-None : goal.returns-in-None
returns-in-None c = steps_found _ Within c.in-None.ensures
