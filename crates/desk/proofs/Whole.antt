-- A piece that there is room for is taken whole.
use Prim.Native.Nat.{ℕ, ◌*◌, ◌≤◌}
use native.Mathlib.Omega.{arith}
use mathlib.Core.List.{List}
use mathlib.Core.Path.{◌≡◌}
use lib.ListN.{length}
use lib.Seq.{take_all}
use Rattle.replies.specs.Clauses.{reply_room}
use Rattle.service.specs.declared.Desk.{Desk}
use Rattle.service.specs.declared.Served.{Served}
use Rattle.service.specs.Service.{Took}
use Rattle.desk.specs.Clauses.{TookAll}

pub took_all : {d : Desk} {piece before after : List ℕ} {r : Served} → length piece * reply_room ≤ length before → Took d piece before after r → TookAll d piece after r
took_all {piece = piece} {before} {r = r} room took =
    let as_many = took.as_many in
    let all : r.taken ≡ length piece = omega arith in
    record { fits = took.fits; serves = rw (all, take_all (length piece) piece (omega arith)) at took.serves }
