-- `next_after`: a whole record's number is below the file's length, so the next number fits.
use mathlib.Core.Path.{sym, ◌∙◌}
use native.Mathlib.Omega.{arith}
use Rattle.parts.proofs.Wholes.{whole_below, whole_next, no_next}
use Rattle.parts.proofs.record.next_after.Goals as goal

pub overflow_add-result : goal.overflow_add-result
overflow_add-result c = omega (arith, whole_below _ _ _ (sym c.is_whole.ensures ∙ c.if-is_whole.true))

pub returns-then-is_whole : goal.returns-then-is_whole
returns-then-is_whole c = sym (whole_next _ _ _ (sym c.is_whole.ensures ∙ c.if-is_whole.true))

pub returns-else-is_whole : goal.returns-else-is_whole
returns-else-is_whole c = sym (no_next _ _ _ (sym c.is_whole.ensures ∙ c.if-is_whole.false))
