-- Mission point 3 for files: what an accepted delivery says is true of the runs of its model. An accepted file makes the claims that the
-- theorems of crate ppda take.
use Prim.Native.Nat.{ℕ, ◌<◌}
use mathlib.Core.Bool.{Bool, true, false, cond}
use mathlib.Core.List.{List}
use mathlib.Core.Path.{◌≡◌, refl}
use Rattle.ppda.specs.Rules.{IsModel}
use Rattle.ppda.specs.Bounds as Bounds
use Rattle.ppda.specs.Bounds.{LowersHold}
use Rattle.ppda.proofs.Upper.{upper_holds}
use Rattle.ppda.proofs.Lower.{lower_holds}
use Rattle.ppda.proofs.Mean.{mean_holds}
use Rattle.ppda.proofs.Bounds.{tail_holds}
use Rattle.model.specs.Records.{states_of, symbols_of}
use Rattle.model.specs.Rules.{rules_of}
use Rattle.model.proofs.Accepted.{is_model_lem}
use Rattle.delivery.specs.declared.shape.Shape.{Shape}
use Rattle.delivery.specs.Shapes.{has_lowers, has_means, shape_of}
use Rattle.delivery.specs.Numbers.{uppers_of, lowers_of, means_of}
use Rattle.verdict.specs.Verdict.{verdict}
use Rattle.verdict.specs.Accepted.{RightFiles}
use Rattle.certificate.specs.Margin.{margin_of, shown_by, shown_margin}
use Rattle.certificate.specs.Promised.{TrueFor, TrueOfRuns}
use Rattle.verdict.proofs.Accepted.{live_exactly, dead_exactly, delivery_accepted}
use Rattle.outcome.specs.Outcomes.{Outcome, Accepted}
use Rattle.std.specs.Prelude.{Option, Some, None, Err, Ok}

-- ---- what accepted files claim

module _ (b d : List ℕ) (x : RightFiles b d) where
  pub model_of : IsModel (states_of b) (symbols_of b) (rules_of b)
  model_of = is_model_lem b x.model

  pub uppers_of_lem : Bounds.Uppers (rules_of b) (states_of b) (symbols_of b) (uppers_of (states_of b) (symbols_of b) d)
  uppers_of_lem = x.delivery.uppers.upper

  pub lowers_of_lem : has_lowers x.shaped ≡ true
      → Bounds.Lowers (rules_of b) (states_of b) (symbols_of b)
      (uppers_of (states_of b) (symbols_of b) d) (lowers_of (states_of b) (symbols_of b) d)
  unfolding uppers_of
  lowers_of_lem e p z q hp hz hq =
      let uppers = x.delivery.uppers in
      let lowers = x.delivery.lowers e in
      record {
        lower = lowers.lower p z q hp hz hq;
        below = lowers.below p z q hp hz hq;
        range = (uppers.due p z q hp hz hq).most;
        strict = λ e. lowers.strict p z q hp hz hq ((live_exactly model_of hp hz hq).0 e);
        dead = λ e. uppers.dead p z q hp hz hq ((dead_exactly model_of hp hz hq).0 e);
      }

  pub means_of_lem : has_means x.shaped ≡ true
      → Bounds.Means (rules_of b) (states_of b) (symbols_of b)
      (uppers_of (states_of b) (symbols_of b) d) (means_of (states_of b) (symbols_of b) x.shaped d)
  means_of_lem e = (x.delivery.means e).mean

-- ---- what is true of the runs

module _ (b d : List ℕ) (x : RightFiles b d) where
  true_for : TrueFor b d (states_of b) (symbols_of b) x.shaped
  unfolding margin_of
  true_for = record {
    uppers = upper_holds _ _ _ _ (model_of b d x) (uppers_of_lem b d x);
    lowers = λ has. lower_holds _ _ _ _ _ (model_of b d x) (uppers_of_lem b d x) (lowers_of_lem b d x has);
    means = λ has. mean_holds _ _ _ _ _ (model_of b d x) (uppers_of_lem b d x) (means_of_lem b d x has);
    tails = λ has. tail_holds _ _ _ _ _ (model_of b d x) (uppers_of_lem b d x) (means_of_lem b d x has);
  }

  pub right_true : TrueOfRuns b d
  right_true = record { shape = x.shaped; shaped = x.delivery.shape; bounds = true_for }

-- What is accepted is true of the runs.
pub accepted_true : (b d : List ℕ) → verdict b d ≡ Accepted → TrueOfRuns b d
accepted_true b d accepted = right_true b d ((delivery_accepted b d).0 accepted)

-- The same by the shape of the file.
pub true_of_shape : (b d : List ℕ) (h : Shape) → verdict b d ≡ Accepted → shape_of (states_of b) (symbols_of b) d ≡ Some h
    → TrueFor b d (states_of b) (symbols_of b) h
true_of_shape b d h accepted shape =
    let holds = accepted_true b d accepted in
    let same : holds.shape ≡ h = let of = holds.shaped in cc in
    rw same at holds.bounds

-- The tail of request A.7, written out: of every row of the model, by the figure of the file.
pub tail_of_files : (b d : List ℕ) (h : Shape) → verdict b d ≡ Accepted → shape_of (states_of b) (symbols_of b) d ≡ Some h → has_means h ≡ true
    → (p z : ℕ) → p < states_of b → z < symbols_of b → Bounds.TailHolds (rules_of b) (states_of b) p z (means_of (states_of b) (symbols_of b) h d p z)
tail_of_files b d h accepted shape = (true_of_shape b d h accepted shape).tails

-- ---- the margin that is shown

-- A margin is shown of an accepted delivery whose shape has lowers, and it is that of the delivery's uppers.
shown_by_lem : (o : Outcome) (t : Option Shape) (a m : ℕ) → shown_by o t a ≡ Some m
    → (h : Shape) × (o ≡ Accepted) × (t ≡ Some h) × (has_lowers h ≡ true) × (a ≡ m)
shown_by_lem (Ok u) (Some h) a m e = go (has_lowers h) refl e
  where
    go : (t : Bool) → has_lowers h ≡ t → cond t (Some a) None ≡ Some m
        → (k : Shape) × (Accepted ≡ Accepted) × (Some h ≡ Some k) × (has_lowers k ≡ true) × (a ≡ m)
    go true q e = (h, refl, refl, q, cc)
    go false q e = cc
shown_by_lem (Ok u) None a m e = cc
shown_by_lem (Err why) t a m e = cc

pub shown_margin_lem : (b d : List ℕ) (m : ℕ) → shown_margin b d ≡ Some m
    → (h : Shape) × (verdict b d ≡ Accepted) × (shape_of (states_of b) (symbols_of b) d ≡ Some h) × (has_lowers h ≡ true) × (margin_of b d ≡ m)
unfolding shown_margin
shown_margin_lem b d m = shown_by_lem (verdict b d) (shape_of (states_of b) (symbols_of b) d) (margin_of b d) m

-- The lowers by the margin that is shown.
pub lower_by_shown_margin : (b d : List ℕ) (m : ℕ) → shown_margin b d ≡ Some m
    → LowersHold (rules_of b) (states_of b) (symbols_of b) (uppers_of (states_of b) (symbols_of b) d) (lowers_of (states_of b) (symbols_of b) d) m
lower_by_shown_margin b d m shown =
    let (h, accepted, shape, has, same) = shown_margin_lem b d m shown in
    rw same at ((true_of_shape b d h accepted shape).lowers has)
