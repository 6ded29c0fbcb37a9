-- `on_entry`: the question is asked where the rest has three numbers, which are the closure's arguments in their order.
use Rattle.std.proofs.Common.{ap, ◌∙◌}
use Rattle.said.specs.declared.Said.TheVariants as Says
use Rattle.said.proofs.Rest.{entry_found}
use Rattle.said.proofs.on_entry.Goals as goal

pub returns-in-Some : goal.returns-in-Some
returns-in-Some g c = λ call by. ap Says.Question (by _ _ _ _ c.ask.ensures) ∙ entry_found _ call c.in-Some.ensures

pub returns-in-None : goal.returns-in-None
returns-in-None g c = λ call by. entry_found _ call c.in-None.ensures
