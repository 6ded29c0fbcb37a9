-- What the mission comes to for two suppliers, after any calls that leave no model held: a model is filed, then the one's delivery, and the other's is merged with it.
-- Where both are right, the merged file is held, and known exactly where it is the one held before; what is shown of it is true of the runs, and no less sharp than
-- what was shown before. Each step is by `mission` itself.
use Prim.Native.Nat.{ℕ, ◌≤◌, min}
use mathlib.Core.Bool.{true}
use mathlib.Core.List.{List, ◌∷◌}
use mathlib.Core.Logic.{◌↔◌}
use mathlib.Core.Option.{none, some}
use mathlib.Core.Path.{◌≡◌, refl, sym, subst, ◌∙◌}
use lib.IntN.{ℤ}
use Rattle.words.specs.Words.{Bytes}
use Rattle.ppda.specs.Bounds.{UpperHolds, MeanHolds, TailHolds}
use Rattle.model.specs.Records.{states_of}
use Rattle.model.specs.Rules.{rules_of}
use Rattle.delivery.specs.Merged.{merged}
use Rattle.verdict.specs.Verdict.{delivery_tests}
use Rattle.verdict.specs.Accepted.{RightFiles}
use Rattle.certificate.specs.Margin.{margin_of}
use Rattle.calls.specs.Calls.{Call, file_model, file_delivery, merge, upper, lower, mean_steps, margin, accepted, known, value, refused, taken}
use Rattle.history.specs.Plain.{last_model, last_delivery}
use Rattle.history.specs.Run.{reply_to, history}
use Rattle.history.specs.Mission.{Holds, HoldsDelivery, LowerHeld, Names}
use Rattle.history.proofs.Mission.{mission}

module _ (cs : List Call) (b e d : List ℕ) (free : last_model (history cs) ≡ none) (one : RightFiles b e) (other : RightFiles b d) where
  -- The calls, latest first.
  abbrev modelled : List Call
  modelled = file_model b ∷ cs

  abbrev filed : List Call
  filed = file_delivery e ∷ modelled

  abbrev both : List Call
  both = merge d ∷ filed

  model_taken : reply_to cs (file_model b) ≡ accepted
  model_taken = ((mission cs).models_taken b).1 (free, one.model)

  model_held_lem : Holds modelled b
  unfolding history last_model
  model_held_lem = rw model_taken refl

  first_taken : taken (reply_to modelled (file_delivery e)) ≡ true
  first_taken = ((mission modelled).deliveries_taken e).1 (b, model_held_lem, one)

  -- The model stays held.
  beside_first : Holds filed b
  unfolding history last_model
  beside_first = model_held_lem

  beside_both : Holds both b
  unfolding history last_model
  beside_both = beside_first

  first_held : HoldsDelivery filed e
  unfolding history last_delivery
  first_held = rw first_taken refl

  second_taken : taken (reply_to filed (merge d)) ≡ true
  second_taken = ((mission filed).merges_taken d).1 (b, e, beside_first, first_held, other)

  -- ---- what is held, and its mark

  pub suppliers_merged : HoldsDelivery both (merged b e d) × RightFiles b (merged b e d)
  suppliers_merged = (mission filed).merges_held b e d beside_first first_held second_taken

  pub suppliers_known : Bytes e → (reply_to filed (merge d) ≡ known) ↔ (merged b e d ≡ e)
  suppliers_known bytes = (mission filed).merges_known b e d beside_first first_held bytes second_taken

  -- Merged with what is held then, it is known.
  pub suppliers_again : reply_to both (merge (merged b e d)) ≡ known
  suppliers_again = (mission both).itself_known (merged b e d) suppliers_merged.0

  -- A third delivery that does not pass names its own first failure.
  pub third_named : (x : List ℕ) (number place : ℕ) (shortfall : ℤ) → (reply_to both (merge x) ≡ refused number place shortfall) ↔ Names (delivery_tests b x) number place shortfall
  third_named x number place shortfall = (mission both).merges_named b (merged b e d) x number place shortfall beside_both suppliers_merged.0

  -- ---- what is shown: true of the runs, and no less sharp than the first supplier's

  pub suppliers_upper : (p z q u w : ℕ) → reply_to filed (upper p z q) ≡ value u → reply_to both (upper p z q) ≡ value w → (w ≤ u) × UpperHolds (rules_of b) p z q w
  suppliers_upper p z q u w was is =
      let (a, held, holds) = (mission both).uppers_true p z q w is in
      let same : a ≡ b = let x : some a ≡ some b = sym held ∙ beside_both in cc in
      (((mission filed).merges_sharpen d).uppers p z q u w was is, subst (λ m. UpperHolds (rules_of m) p z q w) same holds)

  pub suppliers_lower : (p z q l k : ℕ) → reply_to filed (lower p z q) ≡ value l → reply_to both (lower p z q) ≡ value k → (l ≤ k) × LowerHeld both p z q k
  suppliers_lower p z q l k was is = (((mission filed).merges_sharpen d).lowers p z q l k was is, (mission both).lowers_true p z q k is)

  pub suppliers_mean : (p z r t : ℕ) → reply_to filed (mean_steps p z) ≡ value r → reply_to both (mean_steps p z) ≡ value t → (t ≤ r) × MeanHolds (rules_of b) p z t
  suppliers_mean p z r t was is =
      let (a, held, holds) = (mission both).means_true p z t is in
      let same : a ≡ b = let x : some a ≡ some b = sym held ∙ beside_both in cc in
      (((mission filed).merges_sharpen d).means p z r t was is, subst (λ m. MeanHolds (rules_of m) p z t) same holds)

  -- So is their tail, by the smaller mean steps.
  pub suppliers_tail : (p z t : ℕ) → reply_to both (mean_steps p z) ≡ value t → TailHolds (rules_of b) (states_of b) p z t
  suppliers_tail p z t is =
      let (a, held, holds) = (mission both).tails_true p z t is in
      let same : a ≡ b = let x : some a ≡ some b = sym held ∙ beside_both in cc in
      subst (λ m. TailHolds (rules_of m) (states_of m) p z t) same holds

  pub suppliers_margin : (m n : ℕ) → reply_to filed margin ≡ value m → reply_to both margin ≡ value n → min m (margin_of b d) ≤ n
  suppliers_margin m n was is = ((mission filed).merges_sharpen d).margins b m n beside_first was is
