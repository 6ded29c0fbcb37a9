-- A register's replies to calls in the order of time are those of the plain pair.
use mathlib.Core.List.{List, [], ◌∷◌}
use mathlib.Core.Path.{◌≡◌, refl}
use Rattle.calls.specs.Calls.{Call}
use Rattle.history.specs.Plain.{plain_replies}
use Rattle.history.specs.Run.{register_after, history, replies}
use Rattle.history.specs.Mission.{RepliesAsPlain}
use Rattle.history.proofs.Plain.{as_plain_pair}

-- After any calls before them.
from_here : (past cs : List Call) → replies (register_after past) cs ≡ plain_replies (history past) cs
unfolding replies plain_replies register_after history
from_here past [] = refl
from_here past (c ∷ cs) =
    let same = as_plain_pair past c in
    rw (from_here (c ∷ past) cs, same)

pub replies_as_plain : (cs : List Call) → RepliesAsPlain cs
unfolding register_after history
replies_as_plain cs = from_here [] cs
