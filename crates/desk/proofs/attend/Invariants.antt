use Rattle.std.proofs.Common.{◌≤◌, length}
use Rattle.desk.specs.Clauses.{room_bytes}
use Rattle.desk.proofs.attend.Given as goal

abbrev pub invariant-loop : goal.invariant-loop
invariant-loop g l = room_bytes ≤ length l.out
