-- `file_delivery`: a refused filing gives the register that was lent, and writes nothing into it.
use native.Mathlib.Omega.{arith}
use Rattle.std.proofs.lemmas.Grind.{common_steps}
use Rattle.register.specs.Filing.{file_delivery}
use Rattle.register.proofs.Register.file_delivery.Symbol as callee
use Rattle.register.proofs.Register.file_delivery.Met as callee_thm
use Rattle.register.proofs.Keeps.{delivery_keeps}
use Rattle.lent.proofs.Receipts.{receives, receives_walked}
use Rattle.lent.proofs.Walk.{leaves_untouched}
use Rattle.lent.proofs.Untouched.{LeavesUntouched}
use Rattle.lent.proofs.Destruct++none.drop.Code as glue
use Rattle.lent.proofs.filings.file_delivery.Symbol.{name, code}
use Rattle.lent.proofs.filings.file_delivery.Code as own
use Rattle.lent.proofs.filings.file_delivery.Goals as goal

pub returns-else-is_stored : goal.returns-else-is_stored
returns-else-is_stored c = grind (arith, common_steps, delivery_keeps)

-- A refused call writes nothing into the lent register.
pub file_delivery_untouched : {M : Type 1} → LeavesUntouched (receives file_delivery) name code M
file_delivery_untouched 𝓤 𝓛 𝓜 𝓡 wired =
    leaves_untouched (receives_walked file_delivery) _ callee.name 𝓛 𝓜 𝓡 name (own.unfolded 𝓤 𝓛.H 𝓜 𝓡 wired)
    (callee_thm.met 𝓤 𝓛 𝓜 𝓡 (own.calls-register::Register::file_delivery 𝓡.env wired))
    (own.calls-lent::filings::is_stored 𝓡.env wired) (glue.glues 𝓡.env (own.calls-lent::Destruct++none::drop 𝓡.env wired))
