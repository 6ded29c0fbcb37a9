use Prim.Native.Nat.{ℕ, ◌≤◌, ◌<◌}
use lib.ListN.{get_or}
use Rattle.model.specs.Records.{records_of}
use Rattle.model.specs.Format.{most_records}
use Rattle.live.proofs.Bits.{ExitTo}
use Rattle.live.proofs.exits.next_exits.Given as goal

abbrev pub invariant-loop-i : goal.invariant-loop-i
invariant-loop-i l = (l.end ≤ records_of l.model) × (records_of l.model ≤ most_records)
    × ((q : ℕ) → q < l.n.states → ExitTo l.model l.n.states l.n.symbols l.marks l.row (get_or l.starts l.row 0) l.end l.i l.exits q)
