-- `blank`: a list of that many zeros is that long.
use Prim.Native.Nat.{ℕ}
use lib.ListN.{length-replicate}
use Rattle.desk.specs.Clauses.{room_bytes}
use Rattle.desk.proofs.blank.Goals as goal

pub returns : goal.returns
returns c = length-replicate {A = ℕ} room_bytes 0
