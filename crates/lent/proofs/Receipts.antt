-- The filings that answer a receipt, of a delivery and of a merge, and what the walk asks of their types.
use mathlib.Core.Path.{ap}
use Prim.Native.Nat.{ℕ}
use mathlib.Core.List.{List, [], ◌∷◌}
use denote.Steps.{only}
use denote.Struct.Laws as LL
use Rattle.calls.specs.contracts.Mark as K
use Rattle.calls.proofs.Mark.TheLaws as K'
use Rattle.register.specs.declared.Register.{Register}
use Rattle.register.specs.declared.Received.{Received}
use Rattle.register.specs.contracts.Received as F
use Rattle.register.proofs.Received.TheLaws as F'
use Rattle.lent.proofs.Lent.{Filing}
use Rattle.lent.proofs.Walk.{Walked}

-- The filing by value and its definition.
abbrev pub receives : (Register → List ℕ → Received) → Filing
receives by = record { given = F.the_row; accepted = K.the_row; answer = λ f. f.receipt; files = by }

-- Its types.
abbrev pub receives_walked : (by : Register → List ℕ → Received) → Walked (receives by)
receives_walked by = record {
  name = F.the_type.name;
  parts = λ f u is. record { register = _; answer = _; apart = ap only (LL.tells F.the_type F'.the_laws f (u ∷ []) is); answers = (LL.owed F.the_type F'.the_laws f (u ∷ []) is).1.0 };
  typed = λ 𝓛 f u is. ((LL.lawful F.the_type F'.the_laws 𝓛).typed f (u ∷ []) is).0;
  laws = K'.the_row_laws;
  plain = K'.the_row_plain;
  within = K'.the_within;
}
