-- `file_delivery`: an accepted delivery has its numbers for the held model.
use mathlib.Core.Path.{sym, ◌∙◌}
use Rattle.filing.proofs.Outcomes.{delivery_passed}
use Rattle.register.proofs.Steps.{accepted_fits, file_accepted}
use Rattle.register.proofs.Register.file_delivery.Goals as goal

pub shape_for-shape-requires : goal.shape_for-shape-requires
shape_for-shape-requires c = let passed = delivery_passed _ _ (sym c.delivery_outcome.ensures ∙ c.in_default.is) in accepted_fits _ _ passed.1 c.sizes_of-n.ensures.0

pub numbers_of-numbers-requires : goal.numbers_of-numbers-requires
numbers_of-numbers-requires c = let passed = delivery_passed _ _ (sym c.delivery_outcome.ensures ∙ c.in_default.is) in file_accepted _ _ passed.1 c.sizes_of-n.ensures.0 c.shape_for-shape.ensures

pub holding-requires : goal.holding-requires
holding-requires c = let passed = delivery_passed _ _ (sym c.delivery_outcome.ensures ∙ c.in_default.is) in accepted_fits _ _ passed.1 c.sizes_of-n.ensures.0
