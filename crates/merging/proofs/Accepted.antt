-- Where two deliveries pass, the merged one passes, whatever their shapes (request A.5): its layout and its ranges are those of what is made, and its
-- inequalities are those of the merged certificate (crate ppda, `Merging`).
use Prim.Native.Nat.{ℕ, ◌≤◌}
use native.Mathlib.Omega.{arith}
use mathlib.Core.Bool.{Bool, true, false, ◌&&◌, ◌||◌, false≢true, and-eq-true_iff}
use mathlib.Core.List.{List}
use mathlib.Core.Path.{◌≡◌, refl, sym, ◌∙◌}
use Rattle.walks.specs.Order.{AtEntries}
use Rattle.walks.proofs.Numbers.{max_either}
use Rattle.ppda.specs.Units.{chance_unit, step_unit}
use Rattle.ppda.specs.Rules.{IsModel}
use Rattle.ppda.specs.Equations.{Vector, RowVector, Same, SameRows}
use Rattle.ppda.specs.Bounds as Bounds
use Rattle.ppda.specs.Merging.{smaller, larger}
use Rattle.ppda.proofs.Agree.{lower_under_upper}
use Rattle.ppda.proofs.Vectors.{f_same, mean_side_same}
use Rattle.ppda.proofs.Merging.{smaller_left, smaller_right, uppers_merged_lem, strict_merged, larger_keeps, below_merged, means_beside, means_merged_lem}
use Rattle.model.specs.Records.{states_of, symbols_of}
use Rattle.model.specs.Rules.{rules_of}
use Rattle.model.proofs.Accepted.{is_model_lem, sized_fits}
use Rattle.wellformed.proofs.Accepted.{model_accepted, sized_of}
use Rattle.delivery.specs.declared.shape.Block.{Block}
use Rattle.delivery.specs.declared.shape.Block.TheVariants.{Lowers, Means}
use Rattle.delivery.specs.declared.shape.Shape.{Shape}
use Rattle.delivery.specs.Records.{least_of, most_of, is_due, in_range}
use Rattle.delivery.specs.Shapes.{has_lowers, has_means}
use Rattle.delivery.specs.Numbers.{uppers_of, lowers_of, means_of}
use Rattle.delivery.specs.Made.{NumbersFit}
use Rattle.delivery.specs.Merged.{merged_shape, merged_means, merged_of, merged}
use Rattle.delivery.proofs.Due.{due_exactly, range_exactly, AtRecords}
use Rattle.words.specs.Words.{Bytes}
use Rattle.delivery.proofs.Made.{right_of_made, bytes_of_made}
use Rattle.delivery.proofs.Merged.{lowers_with, means_with, merged_is, mean_either, merged_shape_lem, merged_uppers, merged_lowers, merged_means_lem}
use Rattle.verdict.specs.Accepted.{RecordDue, UppersRight, LowersRight, MeansRight, DeliveryFile, RightFiles}
use Rattle.verdict.specs.Verdict.{verdict}
use Rattle.verdict.proofs.Accepted.{BlocksRight, live_exactly, dead_exactly, delivery_accepted}
use Rattle.outcome.specs.Outcomes.{Accepted}

-- ---- what holds of vectors holds of those with the same numbers

module _ (b : List ℕ) {s g : ℕ} (model : IsModel s g (rules_of b)) where
  uppers_as : {v u : Vector} → Same s g v u → Bounds.Uppers (rules_of b) s g u → Bounds.Uppers (rules_of b) s g v
  uppers_as same uppers p z q hp hz hq =
      rw (f_same model chance_unit _ _ same p z q hq, same p z q hp hz hq) (uppers p z q hp hz hq)

  means_as : {v u : Vector} {r t : RowVector} → Same s g v u → SameRows s g r t → Bounds.Means (rules_of b) s g u t
      → Bounds.Means (rules_of b) s g v r
  means_as {v} {u} {r} {t} same rows means p z hp hz =
      rw (mean_side_same model chance_unit step_unit v u r t same rows p z, rows p z hp hz) (means p z hp hz)

  -- The lowers of a file as the theory takes them.
  lowers_of_lem : {h : Shape} {d : List ℕ} → BlocksRight b s g h d → has_lowers h ≡ true
      → Bounds.Lowers (rules_of b) s g (uppers_of s g d) (lowers_of s g d)
  unfolding uppers_of
  lowers_of_lem blocks has p z q hp hz hq =
      let uppers = blocks.uppers in
      let lowers = blocks.lowers has in
      record {
        lower = lowers.lower p z q hp hz hq;
        below = lowers.below p z q hp hz hq;
        range = (uppers.due p z q hp hz hq).most;
        strict = λ e. lowers.strict p z q hp hz hq ((live_exactly model hp hz hq).0 e);
        dead = λ e. uppers.dead p z q hp hz hq ((dead_exactly model hp hz hq).0 e);
      }

-- A record that passes its two tests is due.
due_by_tests : {d : List ℕ} {i : ℕ} {k : Block} {p z q : ℕ} → (is_due d i k p z q ≡ true) × (in_range d i k ≡ true) → RecordDue d i k p z q
due_by_tests {d} {i} {k} {p} {z} {q} (due, range) =
    let a = (due_exactly d i k p z q).0 due in
    let v = (range_exactly d i k).0 range in
    record { kind = a.0; state = a.1.0; symbol = a.1.1.0; exit = a.1.1.1; least = v.0; most = v.1 }

-- ---- the blocks

module _ {b : List ℕ} {s g : ℕ} (model : IsModel s g (rules_of b)) (h k : Shape) (e d : List ℕ)
    (one : BlocksRight b s g h e) (other : BlocksRight b s g k d) where
  -- Both have lowers where the merged one has.
  both_lowers : has_lowers (merged_shape h k) ≡ true → (has_lowers h ≡ true) × (has_lowers k ≡ true)
  both_lowers has = (and-eq-true_iff (has_lowers h) (has_lowers k)).0 (sym (lowers_with (has_lowers h && has_lowers k) (has_means h || has_means k)) ∙ has)

  -- One of them has mean steps where the merged one has.
  some_means : has_means (merged_shape h k) ≡ true → (has_means h || has_means k) ≡ true
  some_means has = sym (means_with (has_lowers h && has_lowers k) (has_means h || has_means k)) ∙ has

  numbers_fit : NumbersFit s g (merged_shape h k) (smaller (uppers_of s g e) (uppers_of s g d)) (larger (lowers_of s g e) (lowers_of s g d))
      (merged_means (has_means h) (has_means k) (means_of s g h e) (means_of s g k d))
  unfolding uppers_of lowers_of means_of
  numbers_fit = record {
    uppers = λ p z q hp hz hq. omega (arith, (one.uppers.due p z q hp hz hq).most);
    lowers = λ has p z q hp hz hq.
        let (l, r) = both_lowers has in
        max_either (λ n. n ≤ most_of Lowers) _ _ ((one.lowers l).due p z q hp hz hq).most ((other.lowers r).due p z q hp hz hq).most;
    means = λ has p z hp hz.
        mean_either (λ n. (least_of Means ≤ n) × (n ≤ most_of Means)) (means_of s g h e) (means_of s g k d) p z (has_means h) (has_means k) (some_means has)
        (λ has. let due = (one.means has).due p z hp hz in (due.least, due.most))
        (λ has. let due = (other.means has).due p z hp hz in (due.least, due.most));
  }

  due : AtRecords s g (merged_shape h k) (RecordDue (merged_of s g h k e d))
  unfolding merged_of
  due =
      let (uppers, (lowers, means)) = right_of_made s g (merged_shape h k) _ _ _ numbers_fit in (
        λ p z q hp hz hq. due_by_tests (uppers p z q hp hz hq),
        (λ has p z q hp hz hq. due_by_tests (lowers has p z q hp hz hq), λ has p z hp hz. due_by_tests (means has p z hp hz)),
      )

  uppers_are : Same s g (uppers_of s g (merged_of s g h k e d)) (smaller (uppers_of s g e) (uppers_of s g d))
  uppers_are = merged_uppers s g h k e d numbers_fit

  uppers_right : UppersRight b s g (merged_of s g h k e d)
  uppers_right = record {
    due = due.0;
    dead = λ p z q hp hz hq dead. uppers_are p z q hp hz hq ∙ (let n = one.uppers.dead p z q hp hz hq dead in omega (arith, n));
    upper = uppers_as b model uppers_are (uppers_merged_lem (rules_of b) s g model _ _ one.uppers.upper other.uppers.upper);
  }

  lowers_right : has_lowers (merged_shape h k) ≡ true → LowersRight b s g (merged_of s g h k e d)
  lowers_right has =
      let (l, r) = both_lowers has in
      let lowers_are = merged_lowers s g h k e d numbers_fit has in
      let first = lowers_of_lem b model one l in
      let second = lowers_of_lem b model other r in
      record {
        due = due.1.0 has;
        dead = λ p z q hp hz hq dead.
            lowers_are p z q hp hz hq
            ∙ max_either (λ n. n ≡ 0) _ _ ((one.lowers l).dead p z q hp hz hq dead) ((other.lowers r).dead p z q hp hz hq dead);
        strict = λ p z q hp hz hq live.
            rw (f_same model chance_unit _ _ uppers_are p z q hq, uppers_are p z q hp hz hq)
            (strict_merged (rules_of b) s g model _ _ p z q hq ((one.lowers l).strict p z q hp hz hq live) ((other.lowers r).strict p z q hp hz hq live));
        below = λ p z q hp hz hq.
            rw (lowers_are p z q hp hz hq, uppers_are p z q hp hz hq)
            (below_merged (rules_of b) s g model _ _ _ _ one.uppers.upper first other.uppers.upper second p z q hp hz hq);
        lower = λ p z q hp hz hq.
            rw (f_same model chance_unit _ _ lowers_are p z q hq, lowers_are p z q hp hz hq)
            (larger_keeps (rules_of b) s g model _ _ p z q hq ((one.lowers l).lower p z q hp hz hq) ((other.lowers r).lower p z q hp hz hq));
      }

  -- The mean steps of each that has any, beside the smaller uppers.
  means_hold : (x y : Bool) → (x || y) ≡ true
      → (x ≡ true → Bounds.Means (rules_of b) s g (uppers_of s g e) (means_of s g h e))
      → (y ≡ true → Bounds.Means (rules_of b) s g (uppers_of s g d) (means_of s g k d))
      → Bounds.Means (rules_of b) s g (smaller (uppers_of s g e) (uppers_of s g d)) (merged_means x y (means_of s g h e) (means_of s g k d))
  means_hold x y some left right = go x y some (λ q. beside_left (left q)) (λ q. beside_right (right q))
    where
      beside_left : Bounds.Means (rules_of b) s g (uppers_of s g e) (means_of s g h e)
          → Bounds.Means (rules_of b) s g (smaller (uppers_of s g e) (uppers_of s g d)) (means_of s g h e)
      beside_left = means_beside (rules_of b) s g model _ _ _ (smaller_left (rules_of b) s g model _ _)

      beside_right : Bounds.Means (rules_of b) s g (uppers_of s g d) (means_of s g k d)
          → Bounds.Means (rules_of b) s g (smaller (uppers_of s g e) (uppers_of s g d)) (means_of s g k d)
      beside_right = means_beside (rules_of b) s g model _ _ _ (smaller_right (rules_of b) s g model _ _)

      go : (x y : Bool) → (x || y) ≡ true
          → (x ≡ true → Bounds.Means (rules_of b) s g (smaller (uppers_of s g e) (uppers_of s g d)) (means_of s g h e))
          → (y ≡ true → Bounds.Means (rules_of b) s g (smaller (uppers_of s g e) (uppers_of s g d)) (means_of s g k d))
          → Bounds.Means (rules_of b) s g (smaller (uppers_of s g e) (uppers_of s g d)) (merged_means x y (means_of s g h e) (means_of s g k d))
      go true true some left right = means_merged_lem (rules_of b) s g model _ _ _ (left refl) (right refl)
      go true false some left right = left refl
      go false true some left right = right refl
      go false false some left right = absurd (false≢true some)

  means_right : has_means (merged_shape h k) ≡ true → MeansRight b s g (merged_shape h k) (merged_of s g h k e d)
  means_right has = record {
    due = due.1.1 has;
    mean = means_as b model uppers_are (merged_means_lem s g h k e d numbers_fit has)
        (means_hold (has_means h) (has_means k) (some_means has) (λ q. (one.means q).mean) (λ q. (other.means q).mean));
  }

-- ---- the files

blocks_of : {b d : List ℕ} {h : Shape} → DeliveryFile b d h → BlocksRight b (states_of b) (symbols_of b) h d
blocks_of file = record { uppers = file.uppers; lowers = file.lowers; means = file.means }

-- The merged numbers are in range.
pub files_fit : (b e d : List ℕ) (one : RightFiles b e) (other : RightFiles b d) →
    let s = states_of b in
    let g = symbols_of b in
    let h = one.shaped in
    let k = other.shaped in
    NumbersFit s g (merged_shape h k) (smaller (uppers_of s g e) (uppers_of s g d)) (larger (lowers_of s g e) (lowers_of s g d))
    (merged_means (has_means h) (has_means k) (means_of s g h e) (means_of s g k d))
files_fit b e d one other =
    numbers_fit (is_model_lem b one.model) one.shaped other.shaped e d (blocks_of one.delivery) (blocks_of other.delivery)

-- Where two deliveries are right for a model, so is the merged one, with the merged shape.
pub merged_file : (b e d : List ℕ) (one : RightFiles b e) (other : RightFiles b d)
    → DeliveryFile b (merged b e d) (merged_shape one.shaped other.shaped)
merged_file b e d one other =
    let model = is_model_lem b one.model in
    let fits = sized_fits (sized_of ((model_accepted b).1 one.model) refl refl) in
    let left = blocks_of one.delivery in
    let right = blocks_of other.delivery in
    let h = one.shaped in
    let k = other.shaped in
    rw (merged_is b e d one.delivery.shape other.delivery.shape)
    (record {
      shape = merged_shape_lem (states_of b) (symbols_of b) h k e d fits.some_states fits.some_symbols;
      uppers = uppers_right model h k e d left right;
      lowers = lowers_right model h k e d left right;
      means = means_right model h k e d left right;
    })

pub merged_right : (b e d : List ℕ) → RightFiles b e → RightFiles b d → RightFiles b (merged b e d)
merged_right b e d one other =
    record { model = one.model; shaped = merged_shape one.shaped other.shaped; delivery = merged_file b e d one other }

-- By the verdicts: once each passes on its own, the merged one always passes.
pub merged_accepted : (b e d : List ℕ) → verdict b e ≡ Accepted → verdict b d ≡ Accepted → verdict b (merged b e d) ≡ Accepted
merged_accepted b e d one other =
    (delivery_accepted b (merged b e d)).1 (merged_right b e d ((delivery_accepted b e).0 one) ((delivery_accepted b d).0 other))

-- The merged file is bytes.
pub merged_bytes : (b e d : List ℕ) → RightFiles b e → RightFiles b d → Bytes (merged b e d)
unfolding merged_of
merged_bytes b e d one other =
    let fits = sized_fits (sized_of ((model_accepted b).1 one.model) refl refl) in
    rw (merged_is b e d one.delivery.shape other.delivery.shape)
    (bytes_of_made (states_of b) (symbols_of b) (merged_shape one.shaped other.shaped) _ _ _ (omega (arith, fits.few_states)) (omega (arith, fits.few_symbols)))

-- Two accepted deliveries for one model never contradict each other, whatever their shapes: no lower of the one is above an upper of the other.
pub deliveries_agree : (b e d : List ℕ) (one : RightFiles b e) → RightFiles b d → has_lowers one.shaped ≡ true
    → AtEntries (states_of b) (symbols_of b) (λ p z q. lowers_of (states_of b) (symbols_of b) e p z q ≤ uppers_of (states_of b) (symbols_of b) d p z q)
deliveries_agree b e d one other has =
    let model = is_model_lem b one.model in
    lower_under_upper (rules_of b) (states_of b) (symbols_of b) model _ _ _ one.delivery.uppers.upper (lowers_of_lem b model (blocks_of one.delivery) has)
    other.delivery.uppers.upper
