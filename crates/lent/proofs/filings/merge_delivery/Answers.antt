-- `merge_delivery`: a refused merge gives the register that was lent, and writes nothing into it.
use native.Mathlib.Omega.{arith}
use Rattle.std.proofs.lemmas.Grind.{common_steps}
use Rattle.register.specs.Merging.{merge_delivery}
use Rattle.register.proofs.Register.merge_delivery.Symbol as callee
use Rattle.register.proofs.Register.merge_delivery.Met as callee_thm
use Rattle.register.proofs.Keeps.{merge_keeps}
use Rattle.lent.proofs.Receipts.{receives, receives_walked}
use Rattle.lent.proofs.Walk.{leaves_untouched}
use Rattle.lent.proofs.Untouched.{LeavesUntouched}
use Rattle.lent.proofs.Destruct++none.drop.Code as glue
use Rattle.lent.proofs.filings.merge_delivery.Symbol.{name, code}
use Rattle.lent.proofs.filings.merge_delivery.Code as own
use Rattle.lent.proofs.filings.merge_delivery.Goals as goal

pub returns-else-is_stored : goal.returns-else-is_stored
returns-else-is_stored c = grind (arith, common_steps, merge_keeps)

-- A refused call writes nothing into the lent register.
pub merge_delivery_untouched : {M : Type 1} → LeavesUntouched (receives merge_delivery) name code M
merge_delivery_untouched 𝓤 𝓛 𝓜 𝓡 wired =
    leaves_untouched (receives_walked merge_delivery) _ callee.name 𝓛 𝓜 𝓡 name (own.unfolded 𝓤 𝓛.H 𝓜 𝓡 wired)
    (callee_thm.met 𝓤 𝓛 𝓜 𝓡 (own.calls-register::Register::merge_delivery 𝓡.env wired))
    (own.calls-lent::filings::is_stored 𝓡.env wired) (glue.glues 𝓡.env (own.calls-lent::Destruct++none::drop 𝓡.env wired))
