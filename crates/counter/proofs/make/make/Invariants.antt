use mathlib.Core.Path.{◌≡◌}
use lib.ListN.{take}
use Prim.Native.Nat.{◌*◌}
use Rattle.walks.specs.Lists.{list_to}
use Rattle.model.specs.Format as model
use Rattle.model.specs.Made.{made_model}
use Rattle.counter.proofs.Made.{rule_made}
use Rattle.counter.proofs.make.make.Given as goal

abbrev pub invariant-loop-i : goal.invariant-loop-i
invariant-loop-i l = take (model.record_bytes * l.i) l.out ≡ made_model (list_to (rule_made l.file) l.i)
