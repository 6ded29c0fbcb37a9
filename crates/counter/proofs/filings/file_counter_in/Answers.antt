-- `file_counter_in`: a refused filing gives the register that was lent, and writes nothing into it.
use native.Mathlib.Omega.{arith}
use Rattle.std.proofs.lemmas.Grind.{common_steps}
use Rattle.lent.proofs.Filed.{filed, filed_walked}
use Rattle.lent.proofs.Walk.{leaves_untouched}
use Rattle.lent.proofs.Untouched.{LeavesUntouched}
use Rattle.counter.specs.Filing.{file_counter}
use Rattle.counter.proofs.Filing.{counter_keeps}
use Rattle.counter.proofs.Destruct++none.drop.Code as glue
use Rattle.counter.proofs.filings.file_counter.Symbol as callee
use Rattle.counter.proofs.filings.file_counter.Met as callee_thm
use Rattle.counter.proofs.filings.file_counter_in.Symbol.{name, code}
use Rattle.counter.proofs.filings.file_counter_in.Code as own
use Rattle.counter.proofs.filings.file_counter_in.Goals as goal

pub returns-else-is_stored : goal.returns-else-is_stored
returns-else-is_stored c = grind (arith, common_steps, counter_keeps)

-- A refused call writes nothing into the lent register.
pub file_counter_in_untouched : {M : Type 1} → LeavesUntouched (filed file_counter) name code M
file_counter_in_untouched 𝓤 𝓛 𝓜 𝓡 wired =
    leaves_untouched (filed_walked file_counter) _ callee.name 𝓛 𝓜 𝓡 name (own.unfolded 𝓤 𝓛.H 𝓜 𝓡 wired)
    (callee_thm.met 𝓤 𝓛 𝓜 𝓡 (own.calls-counter::filings::file_counter 𝓡.env wired))
    (own.calls-lent::filings::is_stored 𝓡.env wired) (glue.glues 𝓡.env (own.calls-counter::Destruct++none::drop 𝓡.env wired))
