-- The merged delivery is at least as sharp as both, and its margin is at least the smaller of theirs (request A.5).
use Prim.Native.Nat.{ℕ, ◌≤◌, min}
use native.Mathlib.Nat.{le_refl}
use native.Mathlib.Omega.{arith}
use mathlib.Core.Bool.{Bool, true, false, ◌&&◌, ◌||◌, false≢true, and-eq-true_iff}
use mathlib.Core.List.{List}
use mathlib.Core.Path.{◌≡◌, refl, sym, ◌∙◌}
use Rattle.ppda.specs.Equations.{RowVector, Same, SameRows}
use Rattle.ppda.specs.Merging.{smaller, larger}
use Rattle.ppda.proofs.Vectors.{margin_same}
use Rattle.ppda.proofs.Merging.{margin_merged}
use Rattle.model.specs.Records.{states_of, symbols_of}
use Rattle.model.specs.Rules.{rules_of}
use Rattle.model.proofs.Accepted.{is_model_lem}
use Rattle.delivery.specs.declared.shape.Shape.{Shape}
use Rattle.delivery.specs.Shapes.{has_lowers, has_means}
use Rattle.delivery.specs.Numbers.{uppers_of, lowers_of, means_of}
use Rattle.delivery.specs.Merged.{merged_shape, merged_means, merged_of, merged}
use Rattle.delivery.proofs.Merged.{lowers_with, means_with, merged_is, merged_uppers, merged_lowers, merged_means_lem}
use Rattle.verdict.specs.Accepted.{RightFiles}
use Rattle.certificate.specs.Margin.{margin_of}
use Rattle.merging.specs.Sharper.{Sharper}
use Rattle.merging.proofs.Accepted.{files_fit}

-- ---- mean steps

means_left : (x y : Bool) (r t : RowVector) (p z : ℕ) → x ≡ true → merged_means x y r t p z ≤ r p z
means_left true true r t p z e = omega arith
means_left true false r t p z e = le_refl _
means_left false y r t p z e = absurd (false≢true e)

means_right : (x y : Bool) (r t : RowVector) (p z : ℕ) → y ≡ true → merged_means x y r t p z ≤ t p z
means_right true true r t p z e = omega arith
means_right true false r t p z e = absurd (false≢true e)
means_right false y r t p z e = le_refl _

either_left : (x y : Bool) → x ≡ true → (x || y) ≡ true
either_left true y e = refl
either_left false y e = absurd (false≢true e)

either_right : (x y : Bool) → y ≡ true → (x || y) ≡ true
either_right true y e = refl
either_right false y e = e

-- ---- the files

module _ (b e d : List ℕ) (one : RightFiles b e) (other : RightFiles b d) where
  abbrev joined : Shape
  joined = merged_shape one.shaped other.shaped

  -- Which blocks it has.
  lowers_joined : has_lowers joined ≡ (has_lowers one.shaped && has_lowers other.shaped)
  lowers_joined = lowers_with (has_lowers one.shaped && has_lowers other.shaped) (has_means one.shaped || has_means other.shaped)

  means_joined : has_means joined ≡ (has_means one.shaped || has_means other.shaped)
  means_joined = means_with (has_lowers one.shaped && has_lowers other.shaped) (has_means one.shaped || has_means other.shaped)

  file_is : merged b e d ≡ merged_of (states_of b) (symbols_of b) one.shaped other.shaped e d
  file_is = merged_is b e d one.delivery.shape other.delivery.shape

  pub uppers_joined : Same (states_of b) (symbols_of b) (uppers_of (states_of b) (symbols_of b) (merged b e d))
      (smaller (uppers_of (states_of b) (symbols_of b) e) (uppers_of (states_of b) (symbols_of b) d))
  uppers_joined = rw file_is (merged_uppers (states_of b) (symbols_of b) one.shaped other.shaped e d (files_fit b e d one other))

  pub lowers_are : has_lowers joined ≡ true → Same (states_of b) (symbols_of b) (lowers_of (states_of b) (symbols_of b) (merged b e d))
      (larger (lowers_of (states_of b) (symbols_of b) e) (lowers_of (states_of b) (symbols_of b) d))
  lowers_are has = rw file_is (merged_lowers (states_of b) (symbols_of b) one.shaped other.shaped e d (files_fit b e d one other) has)

  pub means_are : has_means joined ≡ true → SameRows (states_of b) (symbols_of b) (means_of (states_of b) (symbols_of b) joined (merged b e d))
      (merged_means (has_means one.shaped) (has_means other.shaped) (means_of (states_of b) (symbols_of b) one.shaped e)
      (means_of (states_of b) (symbols_of b) other.shaped d))
  means_are has = rw file_is (merged_means_lem (states_of b) (symbols_of b) one.shaped other.shaped e d (files_fit b e d one other) has)

  pub sharper_than_first : Sharper (states_of b) (symbols_of b) joined (merged b e d) one.shaped e
  sharper_than_first = record {
    uppers = λ p z q hp hz hq. rw (uppers_joined p z q hp hz hq) (omega arith);
    lowers_from = λ has. ((and-eq-true_iff (has_lowers one.shaped) (has_lowers other.shaped)).0 (sym lowers_joined ∙ has)).0;
    lowers = λ has p z q hp hz hq. rw (lowers_are has p z q hp hz hq) (omega arith);
    means_kept = λ has. means_joined ∙ either_left (has_means one.shaped) (has_means other.shaped) has;
    means = λ has p z hp hz.
        rw (means_are (means_joined ∙ either_left (has_means one.shaped) (has_means other.shaped) has) p z hp hz)
        (means_left (has_means one.shaped) (has_means other.shaped) _ _ p z has);
  }

  pub sharper_than_second : Sharper (states_of b) (symbols_of b) joined (merged b e d) other.shaped d
  sharper_than_second = record {
    uppers = λ p z q hp hz hq. rw (uppers_joined p z q hp hz hq) (omega arith);
    lowers_from = λ has. ((and-eq-true_iff (has_lowers one.shaped) (has_lowers other.shaped)).0 (sym lowers_joined ∙ has)).1;
    lowers = λ has p z q hp hz hq. rw (lowers_are has p z q hp hz hq) (omega arith);
    means_kept = λ has. means_joined ∙ either_right (has_means one.shaped) (has_means other.shaped) has;
    means = λ has p z hp hz.
        rw (means_are (means_joined ∙ either_right (has_means one.shaped) (has_means other.shaped) has) p z hp hz)
        (means_right (has_means one.shaped) (has_means other.shaped) _ _ p z has);
  }

  -- The margin of the merged uppers. Where both have lowers it is the margin that is shown.
  pub margin_of_merged : min (margin_of b e) (margin_of b d) ≤ margin_of b (merged b e d)
  unfolding margin_of
  margin_of_merged =
      let model = is_model_lem b one.model in
      rw (margin_same model _ _ uppers_joined)
      (margin_merged (rules_of b) (states_of b) (symbols_of b) model _ _)
