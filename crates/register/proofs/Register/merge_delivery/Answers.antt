-- `merge_delivery`: an accepted second delivery has its numbers for the held model, and so have both merged.
use mathlib.Core.Path.{sym, ◌∙◌}
use Rattle.filing.proofs.Outcomes.{merge_passed}
use Rattle.register.proofs.Steps.{accepted_fits, file_accepted}
use Rattle.register.proofs.Register.merge_delivery.Goals as goal

pub shape_for-second-requires : goal.shape_for-second-requires
shape_for-second-requires c = let passed = merge_passed _ _ _ (sym c.merge_outcome.ensures ∙ c.in_default.is) in accepted_fits _ _ passed.2 c.sizes_of-n.ensures.0

pub merged_numbers-merged-requires : goal.merged_numbers-merged-requires
merged_numbers-merged-requires c = let passed = merge_passed _ _ _ (sym c.merge_outcome.ensures ∙ c.in_default.is) in file_accepted _ _ passed.2 c.sizes_of-n.ensures.0 c.shape_for-second.ensures

pub holding-requires : goal.holding-requires
holding-requires c = let passed = merge_passed _ _ _ (sym c.merge_outcome.ensures ∙ c.in_default.is) in accepted_fits _ _ passed.2 c.sizes_of-n.ensures.0
