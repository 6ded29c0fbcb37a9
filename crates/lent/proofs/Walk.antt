-- The code of the filings on a lent register, which is one but for the types of what is given and answered, and the walk through it where they refuse.
use mathlib.Core.Path.{◌≡◌, refl, ap, subst}
use mathlib.Core.Bool.{Bool, not}
use mathlib.Core.List.{List, [], ◌∷◌}
use lib.Dec.{T as Holds}
use seplogic.Ra.Ura.{Ura}
use mir.Syntax.{Callee, Dict, Symbol, impl, Sym, Ty, tnil, tcons, dnil, dcons, named, mut, imm, w8, ty_int, ty_bool, ty_ref, ty_struct, Fn, Body as Code, local, value_local, place, deref, field, copy, rv_opd, seq, assign, call, cond, skip, return}
use mir.Raw.{raw as erased}
use mir.Val.{Val, vptr, vstruct, vnil, vcons, has_ty, WT}
use base.Logic.{ent, emp, id⊢}
use base.Fml.{Lft, ftrue, fsep}
use prog.Model.{Model}
use prog.Erase.{raw-raw}
use prog.Wired.{Wired}
use prog.Wp.{WpFn, Closed}
use types.Logic.{Logic}
use contract.BorrowLft.{◌⊑◌}
use contract.Monad.{fact, fact_i}
use contract.Running.{Running, MachineTables, tables}
use types.Kit.{‵, raw, ◌⊛◌, some, later, at_ret, ◌$◌, ◌∵◌, !, qed, move, drop, use0, use1, use2, split, join, fsplit, fjoin, fpick, fpack, pick, await, done}
use types.Run.{look_raw, stop, load, of_opd, fld, and_then, no_more, first, branches, skips, exec, enter, returns}
use types.Part.{whole, sub}
use types.ByLocal.{alloc_all, pass_all, free_all, look_at, get, get_in, through, sets, lands_as, env}
use denote.Exit.{no}
use denote.RattleType.{RattleType}
use denote.Param.{arg, layout}
use denote.Param.Laws.{Laws, arg_laws}
use denote.Param.Plain.{IsPlain}
use denote.Param.Glue.{Bound}
use denote.Laws.{Is, shows}
use denote.Memory.{cell_at, part_of, pointee}
use denote.Builtin.{u8, bool}
use denote.Plain.{uint_row_laws}
use denote.Slice.{slice_ty, ShrSlice, shr_slice_copy, shr_slice_Lawful}
use denote.Steps.{only, owned, peeks, facts, heard, nothing}
use denote.Struct.Steps.{spelt}
use denote.Struct.Laws as LL
use denote.Enum.Laws as EL
use denote.Enum.Loose.{loose_lawful}
use denote.Triple.Statement.{Contract, Triple}
use denote.Triple.Spec.{triple_of}
use denote.Triple.Call.{calls_at}
use denote.Triple.Clauses.{Lasts, lasts}
use denote.Triple.Table.{entered, framed}
use Rattle.std.specs.contracts.result.Result as Results
use Rattle.std.proofs.result.Result.TheLaws as Results'
use Rattle.outcome.specs.Outcomes.{is_refused}
use Rattle.outcome.specs.contracts.Refusal as Refusals
use Rattle.outcome.proofs.Refusal.TheLaws as Refusals'
use Rattle.register.specs.contracts.Register as R
use Rattle.register.proofs.Register.TheLaws as R'
use Rattle.lent.specs.contracts.filings.is_stored as test
use Rattle.lent.proofs.filings.is_stored.Symbol as test'
use Rattle.lent.proofs.filings.is_stored.Met as test_thm
use Rattle.lent.proofs.Lent.{register_val, Filing, answered, called, Files}
use Rattle.lent.proofs.Untouched.{RefusedCall, Untouched, lent, slice, token, bytes, not_reached}

-- The machine value u of what is given: the register's, and the answer's.
pub record Parts (F : Filing) (f : F.given.Denot) (u : Val) : Type 0 where
  pub register : Val
  pub answer : Val
  pub apart : u ≡ vstruct (vcons register (vcons answer vnil))
  pub answers : Is (answered F) (F.answer f) (answer ∷ [])

-- What the walk asks of a filing's types.
pub record Walked (F : Filing) : Type 2 where
  -- the name of the struct that is given, how a value of it lies, and that the value is of its type
  pub name : Sym
  pub parts : (f : F.given.Denot) (u : Val) → Is F.given f (u ∷ []) → Parts F f u
  pub typed : {M : Type 1} {𝓤 : Ura M} (𝓛 : Logic 𝓤) (f : F.given.Denot) (u : Val) → Is F.given f (u ∷ []) → Holds (has_ty (ty_struct name (tcons R'.mir (tcons (layout (answered F)) tnil))) u) × WT u
  -- what an accepted filing answers: its laws, that it owns only facts, and that it reaches nothing that is lent
  pub laws : Laws F.accepted
  pub plain : IsPlain F.accepted
  pub within : (κ : Lft) → κ ⊑ F.accepted.lives

-- `glue` is the symbol by which the function's crate lets go of what `is_stored` is handed.
module _ {F : Filing} (W : Walked F) (glue : Symbol) where
  -- what is accepted as `is_stored` takes it, how it is let go there, and the name by which `is_stored` is called
  abbrev pub asked : RattleType
  asked = arg (erased (layout F.accepted)) no F.accepted

  abbrev pub frees : Dict
  frees = impl (glue ∷ []) (tcons (layout asked) tnil) dnil

  abbrev pub tests : Callee
  tests = test'.name (tcons (layout asked) tnil, dcons frees dnil)

  -- the function's MIR: what it gives and answers, the store, what follows the branch, and the whole
  abbrev given_mir : Ty
  given_mir = ty_struct W.name (tcons R'.mir (tcons (layout (answered F)) tnil))

  abbrev stores : Code
  stores = seq (assign (place 7 []) (rv_opd (copy (place 3 (field 0 ∷ []))))) (assign (place 1 (deref R'.mir ∷ [])) (rv_opd (copy (place 7 []))))

  abbrev answers : Code
  answers = seq (assign (place 0 []) (rv_opd (copy (place 3 (field 1 ∷ []))))) return

  abbrev pub function : Callee → Fn
  function callee = record {
    lifetimes = 2;
    outlives = [];
    ty_params = [];
    givens = 0;
    params = 2;
    locals = local (layout (answered F)) value_local
        ∷ local (ty_ref (named 0) mut (pointee (R.the_row).written)) value_local
        ∷ local (slice_ty (ty_ref (named 1) imm (ty_int w8))) value_local
        ∷ local given_mir value_local
        ∷ local R'.mir value_local
        ∷ local ty_bool value_local
        ∷ local (layout (answered F)) value_local
        ∷ local R'.mir value_local
        ∷ [];
    body = seq (assign (place 4 []) (rv_opd (copy (place 1 (deref R'.mir ∷ [])))))
        (seq (call callee (copy (place 4 []) ∷ copy (place 2 []) ∷ []) (place 3 []))
        (seq (assign (place 6 []) (rv_opd (copy (place 3 (field 1 ∷ [])))))
        (seq (call tests (copy (place 6 []) ∷ []) (place 5 []))
        (seq (cond (copy (place 5 [])) stores skip) answers))));
  }

  module _ (callee : Callee) {M : Type 1} {𝓤 : Ura M} (𝓛 : Logic 𝓤) (𝓜 : Model 𝓤 𝓛.H) (𝓡 : Running 𝓤 𝓛.H 𝓜) where
    abbrev 𝓣 : MachineTables 𝓤 𝓛.H 𝓜
    𝓣 = tables 𝓤 𝓛.H 𝓜 𝓡 𝓡.env

    -- the contract of `is_stored` there
    abbrev Tests : Contract 𝓤
    Tests = triple_of 𝓛 (test.signature asked) (test.spec asked frees 𝓛 𝓜.mem 𝓡.returns)

    -- the walk: the share is read, and the branch that stores is not taken
    untouched : Triple 𝓤 (𝓣.C callee) (Files F 𝓤 𝓛) → Triple 𝓤 (𝓣.C tests) Tests → (x : RefusedCall F)
        → ent 𝓤 ((Untouched F 𝓛).pre x) (WpFn 𝓤 𝓛.H 𝓣.C 𝓣.Λ (function callee) ((Untouched F 𝓛).args x) ((Untouched F 𝓛).post x))
    unfolding part_of
    untouched known tested x =
        let fm = framed 𝓤 𝓛.H 𝓜 𝓣 in
        let κ' = x.lifetime in let b = x.block in let o = x.offset in let h = x.held in let s = x.file in let v = slice F 𝓛 x in
        let Own = bytes F 𝓛 x in let Tok = token F 𝓛 x in let Slice = ShrSlice (named 1) κ' u8 in
        let Answers = answered F in let Test = test.ended asked frees in
        qed 𝓛 (lent F 𝓛 x ∷ Tok ∷ Own ∷ []) ∵ move ! (2 ∷ []) $
        peeks ! Slice (Is Slice) (shows 𝓛 Slice) s (v ∷ []) (λ p.
        use1 𝓛 (Own ⊛ Own) ((shr_slice_copy 𝓛 (named 1) κ' u8 (uint_row_laws w8)).twice s (v ∷ [])) $ split ! $ move ! (2 ∷ []) $
        fpick ! (λ vs. fsplit ! $
        spelt ! R.the_row (Is R.the_row) (shows 𝓛 R.the_row) (LL.vals R.the_type R'.the_laws) (LL.tells R.the_type R'.the_laws) x.share h vs b o $
        move ! (1 ∷ []) $ facts ! R.the_row (Is R.the_row) (shows 𝓛 R.the_row) h (register_val h ∷ []) (λ was.
        let typed = ((LL.lawful R.the_type R'.the_laws 𝓛).typed h _ was).0 in
        -- [the register's cell; the file; the file; the token]
        enter ! 𝓣.C 𝓣.Λ (function callee) (vptr b o ∷ v ∷ []) _ $ alloc_all ! (λ l.
        pass_all ! refl ((tt, tt), (((shr_slice_Lawful 𝓛 (named 1) κ' u8).typed s (v ∷ []) p).0, tt)) $
        sets ! (of_opd ! (load ! (through ! refl (stop !)) (look_raw ! 0 refl))) refl typed $
        owned ! R.the_row (Is R.the_row) (LL.makes R.the_type R'.the_plain 𝓛) h _ was $
        let to : (Files F 𝓤 𝓛).Ghost = (((κ', tt), (x.token, tt), tt, (h, (s, tt)), (register_val h ∷ [], (v ∷ [], tt))), tt) in
        nothing ! $ move ! (3 ∷ 0 ∷ []) $ join ! $ move ! (1 ∷ 0 ∷ []) $ join ! $ nothing ! $ move ! (4 ∷ 0 ∷ []) $ join ! $ join ! $
        nothing ! $ move ! (1 ∷ 0 ∷ []) $ use2 𝓛 (raw ((Files F 𝓤 𝓛).pre to)) (id⊢ 𝓤 _) $
        -- [what the filing asks; the register's cell; the file]
        calls_at ! fm (Files F 𝓤 𝓛) known to (and_then ! (get ! refl) (and_then ! (get ! refl) (no_more !))) (λ u.
        use1 𝓛 (later (some (λ (f : F.given.Denot). ((Tok ⊛ ‵ ftrue) ⊛ ‵ (F.given.own_val f (u ∷ []))) ⊛
        some (λ (ws : Lasts (called F) (κ', tt) (h, (s, tt))). ‵ (lasts (called F) (κ', tt) (h, (s, tt)) ws) ⊛ raw (fact 𝓤 (f ≡ F.files h s.now)))))) (id⊢ 𝓤 _) $
        await ! tt $ pick ! (λ f. split ! $ split ! $ split ! $ move ! (1 ∷ []) $ drop ! $ move ! (2 ∷ []) $ pick ! (λ ws. split ! $ drop ! $
        heard ! (f ≡ F.files h s.now) (λ e. move ! (1 ∷ []) $ facts ! F.given (Is F.given) (shows 𝓛 F.given) f (u ∷ []) (λ is.
        -- [the token; the register's cell; the file]
        let given = W.parts f u is in let a = given.answer in
        let fits = ((loose_lawful (Results.the_type F.accepted Refusals.the_row) (Results'.the_loose F.accepted Refusals.the_row W.laws Refusals'.the_row_laws) tt 𝓛).typed (F.answer f) (a ∷ []) given.answers).0 in
        let makes = EL.makes (Results.the_type F.accepted Refusals.the_row) (Results'.the_plain F.accepted Refusals.the_row W.plain Refusals'.the_row_plain) 𝓛 in
        lands_as ! given.apart refl (subst (λ (r : Val). Holds (has_ty given_mir r) × WT r) given.apart (W.typed 𝓛 f u is)) $
        sets ! (of_opd ! (get_in ! (fld ! refl (stop !)) (sub ! 1 refl (whole !)))) refl fits $
        owned ! Answers (Is Answers) makes (F.answer f) (a ∷ []) given.answers $
        let put : Tests.Ghost = (((κ', tt), (x.token, tt), tt, (F.answer f, tt), (a ∷ [], tt)), tt) in
        nothing ! $ move ! (1 ∷ 0 ∷ []) $ join ! $ nothing ! $ move ! (2 ∷ 0 ∷ []) $ join ! $ join ! $
        nothing ! $ use0 𝓛 (raw (fact 𝓤 (κ' ⊑ asked.lives))) (fact_i 𝓤 (κ' ⊑ asked.lives) (emp 𝓤) (W.within κ')) $ join ! $ move ! (1 ∷ 0 ∷ []) $
        use2 𝓛 (raw (Tests.pre put)) (id⊢ 𝓤 _) $
        -- [what `is_stored` asks; the register's cell; the file]
        calls_at ! fm Tests tested put (and_then ! (get ! refl) (no_more !)) (λ w.
        use1 𝓛 (later (some (λ (y : Bool). ((Tok ⊛ ‵ ftrue) ⊛ ‵ (bool.own_val y (w ∷ []))) ⊛
        some (λ (ws : Lasts Test (κ', tt) (F.answer f, tt)). ‵ (lasts Test (κ', tt) (F.answer f, tt) ws) ⊛ raw (fact 𝓤 (y ≡ not (is_refused (F.answer f)))))))) (id⊢ 𝓤 _) $
        await ! tt $ pick ! (λ y. split ! $ split ! $ split ! $ move ! (1 ∷ []) $ drop ! $ move ! (2 ∷ []) $ pick ! (λ ws. split ! $ drop ! $
        heard ! (y ≡ not (is_refused (F.answer f))) (λ d. move ! (1 ∷ []) $ facts ! bool (Is bool) (shows 𝓛 bool) y (w ∷ []) (λ g.
        -- [the token; the register's cell; the file]
        lands_as ! (ap only g) refl (tt, tt) $
        first ! $ branches ! (get ! refl) (λ stored. absurd (not_reached F x f y e d stored)) (λ left. skips ! $ exec ! 𝓣.C 𝓣.Λ (env (function callee).locals l) answers (at_ret _ ((Untouched F 𝓛).post x)) $
        sets ! (of_opd ! (get_in ! (fld ! refl (stop !)) (sub ! 1 refl (whole !)))) refl fits $
        returns ! (look_at ! 0 refl) $ free_all ! refl $
        owned ! R.the_row (Is R.the_row) (LL.makes R.the_type R'.the_plain 𝓛) h _ was $ move ! (2 ∷ 0 ∷ []) $ fjoin ! $
        fpack ! (List Val) (λ us. fsep (cell_at x.share (R.the_row).mir us b o) ((R.the_row).own_val h us)) (register_val h ∷ []) $
        owned ! Answers (Is Answers) makes (F.answer (F.files h s.now)) (a ∷ [])
        (subst (λ (k : F.given.Denot). Is Answers (F.answer k) (a ∷ [])) e given.answers) $ done !)))))))))))))))

    -- the function meets it where the filing by value and `is_stored` meet their own contracts
    pub leaves_untouched : (name : Callee) → Closed 𝓤 𝓛.H 𝓣.C 𝓣.Λ name (function callee) → Triple 𝓤 (𝓣.C callee) (Files F 𝓤 𝓛)
        → Wired 𝓡.env test'.code → ((T : RattleType) → Laws T → Bound 𝓡.env T (impl (glue ∷ []) (tcons (layout T) tnil) dnil))
        → Triple 𝓤 (𝓣.C name) (Untouched F 𝓛)
    leaves_untouched name closed known wired glues =
        let passed : Laws asked = arg_laws (erased (layout F.accepted)) no F.accepted W.laws (raw-raw (layout F.accepted)) in
        entered 𝓤 𝓛.H (Untouched F 𝓛) 𝓣.C 𝓣.Λ name (function callee) closed
        (untouched known (test_thm.met 𝓤 𝓛 𝓜 𝓡 wired asked passed frees (glues asked passed M 𝓤 𝓛 𝓜 𝓡)))
