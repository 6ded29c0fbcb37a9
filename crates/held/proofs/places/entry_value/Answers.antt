-- `entry_value`: the number at the entry's place, and 0 where the model has no such entry.
use mathlib.Core.Path.{sym, ◌∙◌}
use Rattle.held.proofs.Bounds.{entry_exactly, no_entry, entry_there}
use Rattle.held.proofs.places.entry_value.Goals as goal

pub entry-requires : goal.entry-requires
entry-requires c =
    let (row, hq) = (entry_exactly _ _ _ _ _).0 (sym c.has_entry.ensures ∙ c.if-has_entry.true) in (c.requires, row.0, row.1, hq)

pub returns-then-has_entry : goal.returns-then-has_entry
returns-then-has_entry c =
    c.number_at.ensures ∙ rw c.entry.ensures.0 (sym (entry_there _ _ _ _ _ _ (sym c.has_entry.ensures ∙ c.if-has_entry.true)))

pub returns-else-has_entry : goal.returns-else-has_entry
returns-else-has_entry c = sym (no_entry _ _ _ _ _ _ (sym c.has_entry.ensures ∙ c.if-has_entry.false))
