-- What a walker, a file and a kind own. A walker is Copy, and a kind owns facts alone.
use mathlib.Core.Path.{◌≡◌, refl}
use Prim.Native.Nat.{ℕ, ◌<◌, ◌^◌}
use mathlib.Core.List.{List, [], ◌∷◌}
use lib.ListN.{length}
use seplogic.Ra.Ura.{Ura}
use mir.Syntax.{named, w64}
use mir.Val.{Val, vint}
use base.Logic.{ent, sep, emp}
use base.Fml.{Lft, Share, Fml, ftrue, flft}
use types.Logic.{Logic, sem}
use types.Kit.{‵, ◌⊛◌, given, ⋆, ◌$◌, ◌∵◌, !, qed, move, drop, use1, split, join, learn, fsplit, fjoin, frame, done}
use denote.RattleType.{RattleType, owns}
use denote.Laws.{Is}
use denote.Plain.{uint_Makes}
use denote.Builtin.{u8, usize}
use denote.Ref.{Bor, NamedLft}
use denote.Signature.{named_lft}
use denote.Slice.{slice_val, ShrSlice}
use denote.Steps.{owned, nothing}
use denote.Enum.Laws as EL
use denote.Struct.Laws as LL
use denote.Struct.Rest.{all_own, field_own, rest, own_open, own_out}
use denote.Struct.Values.{Values}
use Rattle.parts.specs.declared.record.Kind.{Kind}
use Rattle.parts.specs.declared.record.Kind.TheVariants.{Model, Delivery}
use Rattle.parts.specs.declared.walker.Walker.{Walker}
use Rattle.parts.specs.contracts.walker.Walker as T
use Rattle.parts.proofs.walker.Walker.TheLaws as T'
use Rattle.parts.specs.contracts.record.Kind as K
use Rattle.parts.proofs.record.Kind.TheLaws as K'

-- The signature's lifetime, and the types at it.
abbrev pub α : Lft → NamedLft
α κ = named_lft 1 0 tt (κ, tt)

abbrev pub WalkerT : Lft → RattleType
WalkerT κ = T.the_row (α κ)

abbrev pub FileT : Lft → RattleType
FileT κ = ShrSlice (named 0) κ u8

abbrev pub KindT : RattleType
KindT = K.the_row

-- The machine values.
abbrev pub file_val : Bor (List ℕ) → Val
file_val s = slice_val s.ref_ptr (length s.now)

abbrev pub kind_val : Kind → Val
kind_val k = EL.val K.the_type K'.the_laws k

-- What a walker owns, at its machine value.
abbrev pub Own : Lft → Walker → Fml
Own κ d = (WalkerT κ).own_val d (T'.lowered d ∷ [])

pub kind_is : (k : Kind) → Is KindT k (kind_val k ∷ [])
kind_is Model = EL.owes K.the_type K'.the_laws Model tt
kind_is Delivery = EL.owes K.the_type K'.the_laws Delivery tt

module _ {M : Type 1} {𝓤 : Ura M} (𝓛 : Logic 𝓤) where
  -- A kind is put beside anything.
  pub with_kind : (R : RattleType) (x : R.Denot) (vs : List Val) (k : Kind)
      → ent 𝓤 (sem 𝓛 (R.own_val x vs)) (sem 𝓛 (owns (R ∷ KindT ∷ []) (x, (k, tt)) (vs, (kind_val k ∷ [], tt))))
  with_kind R x vs k =
      qed 𝓛 (‵ (R.own_val x vs) ∷ []) ∵ nothing ! $
      owned ! KindT (Is KindT) (EL.makes K.the_type K'.the_plain 𝓛) k _ (kind_is k) $ fjoin ! $ move ! (1 ∷ 0 ∷ []) $ fjoin ! $ done !

  module _ (κ : Lft) (d : Walker) where
    pub twice : ent 𝓤 (sem 𝓛 (Own κ d)) (sep 𝓤 (sem 𝓛 (Own κ d)) (sem 𝓛 (Own κ d)))
    twice = (LL.copy (T.the_type (α κ)) (T'.the_copy (α κ)) 𝓛).twice d (T'.lowered d ∷ [])

    abbrev values : Values (T.the_type (α κ)).parts
    values = (d.file, (d.next, tt))

    -- What a walker and a kind own gives what the file, the kind and the number own, and what the walker owns is kept.
    pub apart : (q : Share) (k : Kind) → d.next < 2 ^ 64
        → ent 𝓤 (⋆ 𝓛 ((‵ (flft κ q) ⊛ ‵ ftrue) ∷ ‵ (owns (WalkerT κ ∷ KindT ∷ []) (d, (k, tt)) (T'.lowered d ∷ [], (kind_val k ∷ [], tt))) ∷ []))
        (sep 𝓤 (sep 𝓤 (⋆ 𝓛 ((‵ (flft κ q) ⊛ ‵ ftrue) ∷ ‵ (owns (FileT κ ∷ KindT ∷ usize ∷ []) (d.file, (k, (d.next, tt)))
        (file_val d.file ∷ [], (kind_val k ∷ [], (vint w64 d.next ∷ [], tt)))) ∷ [])) (emp 𝓤)) (sem 𝓛 (Own κ d)))
    apart q k fits =
        qed 𝓛 ((‵ (flft κ q) ⊛ ‵ ftrue) ∷ ‵ (owns (WalkerT κ ∷ KindT ∷ []) (d, (k, tt)) (T'.lowered d ∷ [], (kind_val k ∷ [], tt))) ∷ []) ∵
        move ! (1 ∷ []) $ fsplit ! $ move ! (1 ∷ []) $ drop ! $ use1 𝓛 (‵ (Own κ d) ⊛ ‵ (Own κ d)) twice $ split ! $
        use1 𝓛 (given (T'.lowered d ∷ [] ≡ T'.lowered d ∷ []) (‵ (all_own (T.the_type (α κ)).parts (T'.the_laws (α κ)) values)))
        (own_open 𝓛 (T.the_type (α κ)) (T'.the_laws (α κ)) values (T'.lowered d)) $ learn ! (λ _.
        use1 𝓛 (‵ (field_own (T.the_type (α κ)).parts (T'.the_laws (α κ)) 0 d.file) ⊛ ‵ (rest (T.the_type (α κ)).parts (T'.the_laws (α κ)) 0 values))
        (own_out 𝓛 (T.the_type (α κ)).parts (T'.the_laws (α κ)) 0 values) $ split ! $
        -- [what file owns; what next owns; what the walker owns; the token]
        move ! (1 ∷ []) $ drop ! $ nothing ! $ owned ! usize (Is usize) (uint_Makes 𝓛 w64) d.next _ (refl, fits) $ fjoin ! $
        owned ! KindT (Is KindT) (EL.makes K.the_type K'.the_plain 𝓛) k _ (kind_is k) $ fjoin ! $ move ! (1 ∷ 0 ∷ []) $ fjoin ! $
        move ! (2 ∷ 0 ∷ []) $ join ! $ nothing ! $ move ! (1 ∷ 0 ∷ []) $ join ! $ frame ! $ done !)
