-- `file_model`: a refused filing gives the register that was lent, and writes nothing into it.
use native.Mathlib.Omega.{arith}
use Rattle.std.proofs.lemmas.Grind.{common_steps}
use Rattle.register.specs.Filing.{file_model}
use Rattle.register.proofs.Register.file_model.Symbol as callee
use Rattle.register.proofs.Register.file_model.Met as callee_thm
use Rattle.register.proofs.Keeps.{model_keeps}
use Rattle.lent.proofs.Filed.{filed, filed_walked}
use Rattle.lent.proofs.Walk.{leaves_untouched}
use Rattle.lent.proofs.Untouched.{LeavesUntouched}
use Rattle.lent.proofs.Destruct++none.drop.Code as glue
use Rattle.lent.proofs.filings.file_model.Symbol.{name, code}
use Rattle.lent.proofs.filings.file_model.Code as own
use Rattle.lent.proofs.filings.file_model.Goals as goal

pub returns-else-is_stored : goal.returns-else-is_stored
returns-else-is_stored c = grind (arith, common_steps, model_keeps)

-- A refused call writes nothing into the lent register.
pub file_model_untouched : {M : Type 1} → LeavesUntouched (filed file_model) name code M
file_model_untouched 𝓤 𝓛 𝓜 𝓡 wired =
    leaves_untouched (filed_walked file_model) _ callee.name 𝓛 𝓜 𝓡 name (own.unfolded 𝓤 𝓛.H 𝓜 𝓡 wired)
    (callee_thm.met 𝓤 𝓛 𝓜 𝓡 (own.calls-register::Register::file_model 𝓡.env wired))
    (own.calls-lent::filings::is_stored 𝓡.env wired) (glue.glues 𝓡.env (own.calls-lent::Destruct++none::drop 𝓡.env wired))
