-- The filings that answer whether they are accepted, of a model and of a counter file, and what the walk asks of their types.
use mathlib.Core.Path.{refl, ap}
use Prim.Native.Nat.{ℕ}
use mathlib.Core.List.{List, [], ◌∷◌}
use contract.BorrowLft.{⊑_static}
use denote.Builtin.{unit}
use denote.Param.Laws.{of_field}
use denote.Param.Shared.{copy_shared}
use denote.Steps.{only}
use denote.Struct.Field.{unit-field}
use denote.Struct.Laws.{unit-laws, unit-copy, unit-plain}
use denote.Struct.Laws as LL
use Rattle.register.specs.declared.Register.{Register}
use Rattle.register.specs.declared.Filed.{Filed}
use Rattle.register.specs.contracts.Filed as F
use Rattle.register.proofs.Filed.TheLaws as F'
use Rattle.lent.proofs.Lent.{Filing}
use Rattle.lent.proofs.Walk.{Walked}

-- The filing by value and its definition.
abbrev pub filed : (Register → List ℕ → Filed) → Filing
filed by = record { given = F.the_row; accepted = unit; answer = λ f. f.outcome; files = by }

-- Its types.
abbrev pub filed_walked : (by : Register → List ℕ → Filed) → Walked (filed by)
filed_walked by = record {
  name = F.the_type.name;
  parts = λ f u is. record { register = _; answer = _; apart = ap only (LL.tells F.the_type F'.the_laws f (u ∷ []) is); answers = (LL.owed F.the_type F'.the_laws f (u ∷ []) is).1.0 };
  typed = λ 𝓛 f u is. ((LL.lawful F.the_type F'.the_laws 𝓛).typed f (u ∷ []) is).0;
  laws = of_field unit-field unit-laws refl (copy_shared unit-field unit-copy);
  plain = unit-plain;
  within = ⊑_static;
}
