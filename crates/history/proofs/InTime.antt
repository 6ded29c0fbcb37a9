-- Every answer to calls in the order of time equals that under the order of files (request A.6).
use mathlib.Core.List.{List, [], ◌∷◌}
use mathlib.Core.Path.{◌≡◌, refl, ap₂}
use Rattle.calls.specs.Calls.{Call}
use Rattle.history.specs.Run.{register_after, replies}
use Rattle.history.specs.FileOrder.{register_by_file, replies_by_file}
use Rattle.history.specs.ByExit.{SameAnswersInTime}
use Rattle.history.proofs.FileOrder.{same_answers}

from_here : (past cs : List Call) → replies (register_after past) cs ≡ replies_by_file (register_by_file past) cs
unfolding replies replies_by_file register_after register_by_file
from_here past [] = refl
from_here past (c ∷ cs) = ap₂ ◌∷◌ (same_answers past c) (from_here (c ∷ past) cs)

pub same_answers_in_time : (cs : List Call) → SameAnswersInTime cs
unfolding register_after register_by_file
same_answers_in_time cs = from_here [] cs
