-- `bounds_check_model`: the verdict as one number; its place fits.
use mathlib.Core.Path.{sym, ◌∙◌}
use Rattle.wellformed.proofs.Places.{model_place}
use Rattle.bounds.proofs.Codes.{place_below}
use Rattle.bounds.proofs.bounds_check_model.Goals as goal

pub code-requires : goal.code-requires
code-requires c = place_below _ (λ r i k e. model_place _ r i k (sym c.check.ensures ∙ e))
