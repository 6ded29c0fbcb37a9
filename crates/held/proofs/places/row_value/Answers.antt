-- `row_value`: the number at the row's place, and 0 where the model has no such row.
use mathlib.Core.Path.{sym, ◌∙◌}
use Rattle.held.proofs.Bounds.{row_exactly, no_row, row_there}
use Rattle.held.proofs.places.row_value.Goals as goal

pub row-requires : goal.row-requires
row-requires c =
    let (hp, hz) = (row_exactly _ _ _ _).0 (sym c.has_row.ensures ∙ c.if-has_row.true) in (c.requires, hp, hz)

pub returns-then-has_row : goal.returns-then-has_row
returns-then-has_row c =
    c.number_at.ensures ∙ rw c.row.ensures.0 (sym (row_there _ _ _ _ _ (sym c.has_row.ensures ∙ c.if-has_row.true)))

pub returns-else-has_row : goal.returns-else-has_row
returns-else-has_row c = sym (no_row _ _ _ _ _ (sym c.has_row.ensures ∙ c.if-has_row.false))
