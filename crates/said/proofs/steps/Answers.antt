-- `steps`: the question is asked where the rest has its numbers, which are the question's in their order.
use Rattle.calls.specs.declared.Question.TheVariants.{MeanSteps}
use Rattle.said.proofs.Rest.{row_found}
use Rattle.said.proofs.steps.Goals as goal

pub returns-in-Some : goal.returns-in-Some
returns-in-Some c = row_found _ MeanSteps c.in-Some.ensures

pub returns-in-None : goal.returns-in-None
returns-in-None c = row_found _ MeanSteps c.in-None.ensures
