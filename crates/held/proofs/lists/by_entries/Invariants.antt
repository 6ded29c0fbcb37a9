use Rattle.held.proofs.Listed.{EntriesTo}
use Rattle.held.proofs.lists.by_entries.Given as goal

abbrev pub invariant-loop-e : goal.invariant-loop-e
invariant-loop-e l = EntriesTo l.s l.live l.e l.marks
