-- "A refused call writes to no lent memory", as a contract beside the function's own: a filing that is refused runs from any share of the memory
-- in which the lent register lies, and gives that share back with the same register in it. A store needs the whole of a memory (`write` of the
-- logic's `prog.Wp`), so that none goes there.
use mathlib.Core.Path.{◌≡◌, ap, subst, ◌∙◌}
use Prim.Native.Nat.{ℕ}
use mathlib.Core.Bool.{Bool, true, not}
use mathlib.Core.List.{List, [], ◌∷◌}
use lib.Dec.{T as Holds}
use lib.ListN.{length}
use seplogic.Ra.Ura.{Ura}
use mir.Syntax.{Callee, named}
use mir.Val.{Val, vptr}
use base.Fml.{Lft, Share, flft}
use prog.Model.{Model}
use prog.Wired.{Code, Wired}
use types.Logic.{Logic}
use contract.Running.{Running}
use types.Kit.{Item, ‵, ⋆}
use denote.Memory.{part_at}
use denote.Builtin.{u8}
use denote.Ref.{Bor}
use denote.Slice.{slice_val, ShrSlice}
use denote.Triple.Statement.{Contract, Triple}
use Rattle.outcome.specs.Outcomes.{is_refused}
use Rattle.register.specs.declared.Register.{Register}
use Rattle.register.specs.contracts.Register as R
use Rattle.lent.proofs.Lent.{Filing, answered}

-- A call that is refused: a share of the register's memory, where it lies and what it holds, and the file, lent for a lifetime.
pub record RefusedCall (F : Filing) : Type 0 where
  pub share : Share
  pub block : ℕ
  pub offset : ℕ
  pub held : Register
  pub file : Bor (List ℕ)
  pub lifetime : Lft
  pub token : Share
  pub refused : is_refused (F.answer (F.files held file.now)) ≡ true

module _ (F : Filing) {M : Type 1} {𝓤 : Ura M} (𝓛 : Logic 𝓤) where
  -- the share of the register, and the machine value of the file, its token and what its slice owns
  abbrev pub lent : RefusedCall F → Item 𝓤
  lent x = ‵ (part_at R.the_row x.share x.held x.block x.offset)

  abbrev pub slice : RefusedCall F → Val
  slice x = slice_val x.file.ref_ptr (length x.file.now)

  abbrev pub token : RefusedCall F → Item 𝓤
  token x = ‵ (flft x.lifetime x.token)

  abbrev pub bytes : RefusedCall F → Item 𝓤
  bytes x = ‵ ((ShrSlice (named 1) x.lifetime u8).own_val x.file (slice x ∷ []))

  -- the contract: what is lent comes back as it was, beside the answer
  abbrev pub Untouched : Contract 𝓤
  Untouched = record {
    Ghost = RefusedCall F;
    args = λ x. vptr x.block x.offset ∷ slice x ∷ [];
    pre = λ x. ⋆ 𝓛 (lent x ∷ token x ∷ bytes x ∷ []);
    post = λ x u. ⋆ 𝓛 (‵ ((answered F).own_val (F.answer (F.files x.held x.file.now)) (u ∷ [])) ∷ lent x ∷ token x ∷ bytes x ∷ []);
  }

-- The function of this name meets it wherever the name means its code, as it meets its own contract.
abbrev pub LeavesUntouched : Filing → Callee → Code → Type 1 → Type 2
LeavesUntouched F name code M = (𝓤 : Ura M) (𝓛 : Logic 𝓤) (𝓜 : Model 𝓤 𝓛.H) (𝓡 : Running 𝓤 𝓛.H 𝓜)
    → Wired 𝓡.env code → Triple 𝓤 (𝓡.run (𝓡.env name)) (Untouched F 𝓛)

-- What is refused is not stored.
pub not_reached : (F : Filing) (x : RefusedCall F) (f : F.given.Denot) (y : Bool) → f ≡ F.files x.held x.file.now
    → y ≡ not (is_refused (F.answer f)) → Holds y → ⊥
not_reached F x f y e d stored =
    subst (λ (z : Bool). Holds (not z)) (ap (λ (g : F.given.Denot). is_refused (F.answer g)) e ∙ x.refused) (subst Holds d stored)
