-- The tables of offending and next records hold, by computation.
use mathlib.Core.List.{[], ◌∷◌, map}
use mathlib.Core.Path.{◌≡◌, refl}
use Rattle.parts.specs.Parts.{is_whole, record_part, next_after, names_rule, names_bound, names_model, offending_part}
use Rattle.parts.specs.Edges.{found, due_to, cases, model_walk, delivery_walk}

pub parts_are_due : map found cases ≡ map due_to cases
unfolding is_whole record_part names_rule names_bound names_model offending_part
parts_are_due = refl

pub walks_end : (model_walk ≡ 1 ∷ 2 ∷ 2 ∷ 3 ∷ []) × (delivery_walk ≡ 1 ∷ 2 ∷ 2 ∷ 3 ∷ [])
unfolding is_whole next_after
walks_end = (refl, refl)
