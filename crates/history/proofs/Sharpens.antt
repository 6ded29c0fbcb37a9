-- No upper, lower or mean steps that are shown before a merge and after it are less sharp after it, and the margin is at least the smaller of the two (request A.5):
-- after a merge the delivery that was held is still held, or the one merged of it.
use Prim.Native.Nat.{ℕ, ◌≤◌, min}
use native.Mathlib.Nat.{le_refl}
use native.Mathlib.Omega.{arith}
use mathlib.Core.Bool.{Bool, true, false, cond}
use mathlib.Core.List.{List, ◌∷◌}
use mathlib.Core.Logic.{◌⊎◌, inl, inr}
use mathlib.Core.Option.{some}
use mathlib.Core.Path.{◌≡◌, refl, sym, subst, ◌∙◌}
use Rattle.model.specs.Records.{states_of, symbols_of}
use Rattle.delivery.specs.declared.shape.Shape.{Shape}
use Rattle.delivery.specs.Shapes.{has_lowers, has_means, shape_of}
use Rattle.delivery.specs.Numbers.{uppers_of, lowers_of, means_of}
use Rattle.delivery.specs.Merged.{merged}
use Rattle.verdict.specs.Accepted.{RightFiles}
use Rattle.verdict.proofs.Accepted.{delivery_accepted}
use Rattle.certificate.specs.Margin.{margin_of}
use Rattle.merging.specs.Sharper.{Sharper}
use Rattle.merging.proofs.Accepted.{merged_file}
use Rattle.merging.proofs.Sharper.{sharper_than_first, margin_of_merged}
use Rattle.calls.specs.Calls.{Call, merge, upper, lower, mean_steps, margin, Reply, value, taken}
use Rattle.history.specs.Plain.{last_model, last_delivery, merged_with, of_model, of_delivery, of_block, at_entry, at_row, plain_reply}
use Rattle.history.specs.Run.{history, reply_to}
use Rattle.history.specs.Mission.{Holds, MergeSharpens}
use Rattle.history.proofs.Pairs.{lower_reply, mean_reply}
use Rattle.history.proofs.Plain.{as_plain_pair}
use Rattle.history.proofs.Merges.{second_accepted}
use Rattle.history.proofs.Shown.{Files, files_asked, entry_asked, row_asked, block_asked}
use Rattle.std.specs.Prelude.{Some}

-- Every delivery is as sharp as itself.
as_sharp : (s g : ℕ) (h : Shape) (d : List ℕ) → Sharper s g h d h d
as_sharp s g h d = record {
  uppers = λ p z q hp hz hq. le_refl _;
  lowers_from = λ has. has;
  lowers = λ has p z q hp hz hq. le_refl _;
  means_kept = λ has. has;
  means = λ has p z hp hz. le_refl _;
}

-- Shapes are those of the files.
sharper_as : {s g : ℕ} {c e : List ℕ} {h j h' j' : Shape} → Sharper s g j c h e → Some j ≡ Some j' → Some h ≡ Some h' → Sharper s g j' c h' e
sharper_as {s} {g} {c} {e} {h} {j} {h'} {j'} sharp shape former =
    let a : j ≡ j' = cc in
    let b : h ≡ h' = cc in
    subst (λ x. Sharper s g x c h' e) a (subst (λ x. Sharper s g j c x e) b sharp)

-- The model is not touched by a merge.
model_kept : (cs : List Call) (d b : List ℕ) → Holds (merge d ∷ cs) b → Holds cs b
unfolding history last_model
model_kept cs d b held = held

-- What the files b and d are answered on an upper, and on the margin.
abbrev upper_reply : List ℕ → List ℕ → ℕ → ℕ → ℕ → Reply
upper_reply b d p z q = at_entry b p z q (value (uppers_of (states_of b) (symbols_of b) d p z q))

abbrev margin_reply : List ℕ → List ℕ → Reply
margin_reply b d = of_block has_lowers (shape_of (states_of b) (symbols_of b) d) (λ h. value (margin_of b d))

module _ (cs : List Call) (b e c d : List ℕ) (before : Files cs b e) (after : Files (merge d ∷ cs) b c) where
  one : RightFiles b e
  one = (delivery_accepted b e).0 before.accepted

  -- What is held after it: the delivery of before, or the one merged of it and d.
  after_is : (e ≡ c) ⊎ (RightFiles b d × (merged b e d ≡ c))
  unfolding history last_delivery
  after_is = go (taken (reply_to cs (merge d))) refl after.delivery
    where
      go : (t : Bool) → taken (reply_to cs (merge d)) ≡ t → cond t (merged_with (last_model (history cs)) (last_delivery (history cs)) d) (last_delivery (history cs)) ≡ some c
          → (e ≡ c) ⊎ (RightFiles b d × (merged b e d ≡ c))
      go true t is =
          let same : some (merged b e d) ≡ some c = rw (before.model, before.delivery) at is in
          inr ((delivery_accepted b d).0 (second_accepted cs b d before.model t), cc)
      go false t is = let same : some e ≡ some c = sym before.delivery ∙ is in inl cc

  -- The delivery after it is as sharp as the one before.
  sharper_after : (j h : Shape) → shape_of (states_of b) (symbols_of b) c ≡ Some j → shape_of (states_of b) (symbols_of b) e ≡ Some h
      → Sharper (states_of b) (symbols_of b) j c h e
  sharper_after j h shape former = go after_is
    where
      go : (e ≡ c) ⊎ (RightFiles b d × (merged b e d ≡ c)) → Sharper (states_of b) (symbols_of b) j c h e
      go (inl same) = sharper_as (rw same (as_sharp (states_of b) (symbols_of b) h c)) (sym (rw same at former) ∙ shape) refl
      go (inr (other, same)) =
          let file = merged_file b e d one other in
          sharper_as (rw same at (sharper_than_first b e d one other)) (sym (rw same at file.shape) ∙ shape) (sym one.delivery.shape ∙ former)

  -- Its margin is at least the smaller of that before and that of d.
  margin_after : min (margin_of b e) (margin_of b d) ≤ margin_of b c
  margin_after = go after_is
    where
      go : (e ≡ c) ⊎ (RightFiles b d × (merged b e d ≡ c)) → min (margin_of b e) (margin_of b d) ≤ margin_of b c
      go (inl same) = rw same (omega arith)
      go (inr (other, same)) = rw same at (margin_of_merged b e d one other)

  upper_sharper : (p z q u w : ℕ) → upper_reply b e p z q ≡ value u → upper_reply b c p z q ≡ value w → w ≤ u
  upper_sharper p z q u w asked again =
      let (hp, hz, hq, was) = entry_asked (states_of b) (symbols_of b) p z q (value (uppers_of (states_of b) (symbols_of b) e p z q)) asked in
      let (hp', hz', hq', is) = entry_asked (states_of b) (symbols_of b) p z q (value (uppers_of (states_of b) (symbols_of b) c p z q)) again in
      let x : uppers_of (states_of b) (symbols_of b) e p z q ≡ u = cc in
      let y : uppers_of (states_of b) (symbols_of b) c p z q ≡ w = cc in
      let two = (delivery_accepted b c).0 after.accepted in
      rw (← x, ← y) ((sharper_after two.shaped one.shaped two.delivery.shape one.delivery.shape).uppers p z q hp hz hq)

  lower_sharper : (p z q l k : ℕ) → at_entry b p z q (lower_reply b e p z q) ≡ value l → at_entry b p z q (lower_reply b c p z q) ≡ value k → l ≤ k
  lower_sharper p z q l k asked again =
      let (hp, hz, hq, inner) = entry_asked (states_of b) (symbols_of b) p z q (lower_reply b e p z q) asked in
      let (hp', hz', hq', inner') = entry_asked (states_of b) (symbols_of b) p z q (lower_reply b c p z q) again in
      let (h, former, has, was) = block_asked has_lowers (shape_of (states_of b) (symbols_of b) e) _ inner in
      let (j, shape, stands, is) = block_asked has_lowers (shape_of (states_of b) (symbols_of b) c) _ inner' in
      let x : lowers_of (states_of b) (symbols_of b) e p z q ≡ l = cc in
      let y : lowers_of (states_of b) (symbols_of b) c p z q ≡ k = cc in
      rw (← x, ← y) ((sharper_after j h shape former).lowers stands p z q hp hz hq)

  mean_sharper : (p z r t : ℕ) → at_row b p z (mean_reply b e p z) ≡ value r → at_row b p z (mean_reply b c p z) ≡ value t → t ≤ r
  mean_sharper p z r t asked again =
      let (hp, hz, inner) = row_asked (states_of b) (symbols_of b) p z (mean_reply b e p z) asked in
      let (hp', hz', inner') = row_asked (states_of b) (symbols_of b) p z (mean_reply b c p z) again in
      let (h, former, has, was) = block_asked has_means (shape_of (states_of b) (symbols_of b) e) _ inner in
      let (j, shape, stands, is) = block_asked has_means (shape_of (states_of b) (symbols_of b) c) _ inner' in
      let x : means_of (states_of b) (symbols_of b) h e p z ≡ r = cc in
      let y : means_of (states_of b) (symbols_of b) j c p z ≡ t = cc in
      rw (← x, ← y) ((sharper_after j h shape former).means has p z hp hz)

  margin_kept : (m n : ℕ) → margin_reply b e ≡ value m → margin_reply b c ≡ value n → min m (margin_of b d) ≤ n
  margin_kept m n asked again =
      let (h, former, has, was) = block_asked has_lowers (shape_of (states_of b) (symbols_of b) e) _ asked in
      let (j, shape, stands, is) = block_asked has_lowers (shape_of (states_of b) (symbols_of b) c) _ again in
      let x : margin_of b e ≡ m = cc in
      let y : margin_of b c ≡ n = cc in
      rw (← x, ← y) margin_after

-- Files before and after a merge, of one model, by which a question is answered both times.
record Twice (cs : List Call) (d : List ℕ) (h : List ℕ → List ℕ → Reply) (n k : ℕ) : Type 0 where
  model : List ℕ
  former : List ℕ
  next : List ℕ
  before : Files cs model former
  after : Files (merge d ∷ cs) model next
  was : h model former ≡ value n
  is : h model next ≡ value k

asked_twice : (cs : List Call) (d : List ℕ) (h : List ℕ → List ℕ → Reply) {n k : ℕ}
    → of_model (last_model (history cs)) (λ b. of_delivery (last_delivery (history cs)) (h b)) ≡ value n
    → of_model (last_model (history (merge d ∷ cs))) (λ b. of_delivery (last_delivery (history (merge d ∷ cs))) (h b)) ≡ value k
    → Twice cs d h n k
asked_twice cs d h {n} {k} asked again =
    let (b, e, before, was) = files_asked cs h asked in
    let (a, c, after, is) = files_asked (merge d ∷ cs) h again in
    let same : a ≡ b = let x : some a ≡ some b = sym (model_kept cs d a after.model) ∙ before.model in cc in
    record {
      model = b;
      former = e;
      next = c;
      before = before;
      after = subst (λ x. Files (merge d ∷ cs) x c) same after;
      was = was;
      is = subst (λ x. h x c ≡ value k) same is;
    }

pub merge_sharpens : (cs : List Call) (d : List ℕ) → MergeSharpens cs d
unfolding plain_reply
merge_sharpens cs d = record {
  uppers = λ p z q u w asked again.
      let t = asked_twice cs d (λ b d. upper_reply b d p z q) (sym (as_plain_pair cs (upper p z q)) ∙ asked) (sym (as_plain_pair (merge d ∷ cs) (upper p z q)) ∙ again) in
      upper_sharper cs t.model t.former t.next d t.before t.after p z q u w t.was t.is;
  lowers = λ p z q l k asked again.
      let t = asked_twice cs d (λ b d. at_entry b p z q (lower_reply b d p z q)) (sym (as_plain_pair cs (lower p z q)) ∙ asked)
      (sym (as_plain_pair (merge d ∷ cs) (lower p z q)) ∙ again) in
      lower_sharper cs t.model t.former t.next d t.before t.after p z q l k t.was t.is;
  means = λ p z r s asked again.
      let t = asked_twice cs d (λ b d. at_row b p z (mean_reply b d p z)) (sym (as_plain_pair cs (mean_steps p z)) ∙ asked)
      (sym (as_plain_pair (merge d ∷ cs) (mean_steps p z)) ∙ again) in
      mean_sharper cs t.model t.former t.next d t.before t.after p z r s t.was t.is;
  margins = λ b m n held asked again.
      let t = asked_twice cs d margin_reply (sym (as_plain_pair cs margin) ∙ asked) (sym (as_plain_pair (merge d ∷ cs) margin) ∙ again) in
      let same : t.model ≡ b = let x : some t.model ≡ some b = sym t.before.model ∙ held in cc in
      subst (λ x. min m (margin_of x d) ≤ n) same (margin_kept cs t.model t.former t.next d t.before t.after m n t.was t.is);
}
