-- `check`: the delivery is tested by its shape.
use mathlib.Core.Path.{refl, sym, ◌∙◌}
use Rattle.model.proofs.Accepted.{sized_fits}
use Rattle.wellformed.proofs.Accepted.{sized_by}
use Rattle.certificate.proofs.Steps.{delivery_decides, no_shape}
use Rattle.certificate.proofs.beside.check.Goals as goal

pub shape_of-requires : goal.shape_of-requires
shape_of-requires c = sized_fits (sized_by c.requires c.sizes_of-n.ensures.0)

pub check_shaped-requires : goal.check_shaped-requires
check_shaped-requires c =
    record { sized = sized_by c.requires c.sizes_of-n.ensures.0; of = sym c.shape_of.ensures ∙ c.in-Some.is }

pub returns-in-Some : goal.returns-in-Some
returns-in-Some c =
    delivery_decides _ _ _ _ refl c.requires c.sizes_of-n.ensures.0 (sym c.in-Some.is ∙ c.shape_of.ensures) c.check_shaped.ensures

pub returns-in-None : goal.returns-in-None
returns-in-None c =
    delivery_decides _ _ _ _ refl c.requires c.sizes_of-n.ensures.0
    (sym c.in-None.is ∙ c.shape_of.ensures) (c.refused.ensures ∙ no_shape _ _ _ _)
