-- `by_entries`: each turn puts the mark of one more entry, whose row and exit are the quotient and the rest of its number by s.
use native.Mathlib.Omega.{arith}
use mathlib.Core.Path.{refl}
use Rattle.model.specs.Format.{most_entries}
use Rattle.held.proofs.Listed.{entries_none, entries_all}
use Rattle.held.proofs.lists.by_entries.Goals as goal

pub loop-e-init : goal.loop-e-init
loop-e-init c = entries_none _ _ most_entries refl

pub returns : goal.returns
returns c = entries_all c.loop-e.invariant _ (omega (arith, c.entries-e-end.ensures.0))
