-- A desk as the code keeps it, and what serving a piece of input is.
use Rattle.std.specs.Prelude.{ℕ, ◌/◌, ◌≤◌, min, List, ◌≡◌, length, take}
use Rattle.replies.specs.Clauses.{reply_room}
use Rattle.script.specs.Serving.{State, Serves}
use Rattle.service.specs.declared.Desk.{Desk}
use Rattle.service.specs.declared.Served.{Served}

-- The state of a desk.
abbrev pub state_of : Desk → State
state_of d = record { register = d.register; line = take d.kept d.line }

-- A piece of input was served, with some bytes for each file that was read: which ones the system hands out, no contract can say. As many of its
-- bytes are taken as `before`, the room for replies, surely has room for the replies to: all of a piece, if there are `reply_room` bytes for each. What
-- is printed are the first `printed` bytes of `after`; what stands beyond them is free.
pub record Took (d : Desk) (piece before after : List ℕ) (r : Served) : Type 0 where
  pub as_many : r.taken ≡ min (length piece) (length before / reply_room)
  pub size : length after ≡ length before
  pub fits : r.printed ≤ length after
  pub serves : Serves (state_of d) (take r.taken piece) (state_of r.desk) (take r.printed after)
