-- A piece of input that the desk takes whole: there is room for the replies to all its lines.
use Rattle.std.specs.Prelude.{ℕ, ◌*◌, ◌≤◌, List, length, take}
use Rattle.replies.specs.Clauses.{reply_room}
use Rattle.script.specs.Serving.{Serves}
use Rattle.service.specs.declared.Desk.{Desk}
use Rattle.service.specs.declared.Served.{Served}
use Rattle.service.specs.Service.{state_of}
use Rattle.desk.specs.declared.Turn.{Turn}

-- The most bytes that are read at once.
abbrev pub piece_bytes : ℕ
piece_bytes = 16384

-- The room for the replies to as many lines.
abbrev pub room_bytes : ℕ
room_bytes = piece_bytes * reply_room

-- All bytes of the piece are taken, and the first `printed` bytes of `out` are the replies.
pub record TookAll (d : Desk) (piece out : List ℕ) (r : Served) : Type 0 where
  pub fits : r.printed ≤ length out
  pub serves : Serves (state_of d) piece (state_of r.desk) (take r.printed out)

-- The desk after a turn is the one before it, served the piece; and served some piece, where the system hands it out.
pub record Replied (d : Desk) (piece : List ℕ) (t : Turn) : Type 0 where
  pub text : List ℕ
  pub serves : Serves (state_of d) piece (state_of t.desk) text

pub record RepliedSome (d : Desk) (t : Turn) : Type 0 where
  pub piece : List ℕ
  pub replied : Replied d piece t
