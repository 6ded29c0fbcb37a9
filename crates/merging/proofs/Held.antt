-- The numbers that a register holds after a merge are those of the merged file, which has been accepted then: of listed numbers the sharper of each pair are
-- the listed numbers of the sharper vectors.
use Prim.Native.Nat.{ℕ, ◌≤◌, min, max}
use native.Mathlib.Omega.{arith}
use mathlib.Core.Bool.{Bool, true, false, cond, ◌&&◌, ◌||◌}
use mathlib.Core.List.{List}
use mathlib.Core.Path.{◌≡◌, refl, sym, ap₂, ◌∙◌}
use lib.ListN.{get_or}
use Rattle.walks.specs.Order.{rows_in, entries_in}
use Rattle.walks.proofs.Exits.{Ordered, exit_ordered, at_places}
use Rattle.ppda.specs.Equations.{Vector, RowVector, Same, SameRows}
use Rattle.ppda.specs.Merging.{larger, smaller_rows}
use Rattle.ppda.specs.Margin.{margin}
use Rattle.ppda.proofs.Vectors.{margin_same}
use Rattle.model.specs.Format.{most_entries}
use Rattle.model.specs.Records.{states_of, symbols_of}
use Rattle.model.specs.Rules.{rules_of}
use Rattle.model.specs.Clauses.{Fits}
use Rattle.model.proofs.Accepted.{is_model_lem, sized_fits}
use Rattle.wellformed.proofs.Accepted.{model_accepted, sized_of}
use Rattle.delivery.specs.declared.shape.Shape.{Shape}
use Rattle.delivery.specs.Shapes.{has_lowers, has_means}
use Rattle.delivery.specs.Numbers.{uppers_of, lowers_of, means_of}
use Rattle.delivery.specs.Merged.{merged_shape, merged_means, merged_of, merged}
use Rattle.delivery.proofs.Merged.{lowers_with, means_with, merged_is, merged_uppers, merged_lowers, merged_means_lem}
use Rattle.verdict.specs.Accepted.{RightFiles}
use Rattle.certificate.specs.Margin.{margin_of}
use Rattle.held.specs.declared.Numbers.{Numbers}
use Rattle.held.specs.Held.{padded, listed_rows, if_standing, numbers_held}
use Rattle.held.proofs.Listed.{padded_at, padded_cong, listed_at, rows_cong}
use Rattle.merging.specs.Numbers.{kept_to, means_to, numbers_merged}
use Rattle.merging.proofs.Accepted.{files_fit}

-- ---- listed numbers

-- In an order of entries, what is kept of two listed vectors is the listed vector of what is kept.
module _ {s g : ℕ} {place : ℕ → ℕ → ℕ → ℕ} {by : Vector → ℕ → ℕ} (o : Ordered s g place by) (few : entries_in s g ≤ most_entries) where
  pub kept_listed : (rule : ℕ → ℕ → ℕ) (u v m : Vector) → Same s g m (λ p z q. rule (u p z q) (v p z q))
      → kept_to rule (entries_in s g) (padded (by u) (entries_in s g)) (padded (by v) (entries_in s g)) ≡ padded (by m) (entries_in s g)
  unfolding kept_to
  kept_listed rule u v m same =
      padded_cong _ (by m) (entries_in s g) few
      (at_places o
      (λ e. rule (get_or (padded (by u) (entries_in s g)) e 0) (get_or (padded (by v) (entries_in s g)) e 0) ≡ by m e)
      (λ p z q hp hz hq.
      ap₂ rule (listed_at o u p z q hp hz hq few) (listed_at o v p z q hp hz hq few)
      ∙ sym (same p z q hp hz hq) ∙ sym (o.stands m p z q hp hz hq)))

  -- A block that both deliveries have, or that is absent.
  pub both_listed : (x y : Bool) (l k m : Vector) → ((x && y) ≡ true → Same s g m (larger l k))
      → if_standing (x && y)
      (kept_to max (entries_in s g) (if_standing x (padded (by l) (entries_in s g))) (if_standing y (padded (by k) (entries_in s g))))
      ≡ if_standing (x && y) (padded (by m) (entries_in s g))
  both_listed true true l k m same = kept_listed max l k m (same refl)
  both_listed true false l k m same = refl
  both_listed false y l k m same = refl

module _ {s g : ℕ} (fits : Fits s g) where
  few_rows : rows_in s g ≤ most_entries
  few_rows = omega (arith, fits.few_rows)

  rows_listed : (r t : RowVector) → kept_to min (rows_in s g) (listed_rows s g r) (listed_rows s g t) ≡ listed_rows s g (smaller_rows r t)
  unfolding kept_to
  rows_listed r t =
      padded_cong _ _ (rows_in s g) few_rows (λ e lt. ap₂ min (padded_at _ _ e lt few_rows) (padded_at _ _ e lt few_rows))

  -- Mean steps, which either delivery may have.
  means_listed : (x y : Bool) (r t m : RowVector) → ((x || y) ≡ true → SameRows s g m (merged_means x y r t))
      → means_to (rows_in s g) x y (if_standing x (listed_rows s g r)) (if_standing y (listed_rows s g t)) ≡ if_standing (x || y) (listed_rows s g m)
  means_listed true true r t m same = rows_listed r t ∙ sym (rows_cong s g m (smaller_rows r t) few_rows (same refl))
  means_listed true false r t m same = sym (rows_cong s g m r few_rows (same refl))
  means_listed false true r t m same = sym (rows_cong s g m t few_rows (same refl))
  means_listed false false r t m same = refl

-- ---- the numbers of the merged file

-- In the order `by`, with `place` the place of an entry: the numbers of the delivery d of shape h, and the numbers `former` and `second` merged, for the model b.
abbrev numbers_in : (Vector → ℕ → ℕ) → List ℕ → Shape → List ℕ → Numbers
numbers_in by b h d =
    let s = states_of b in
    let g = symbols_of b in
    record {
      uppers = padded (by (uppers_of s g d)) (entries_in s g);
      lowers = if_standing (has_lowers h) (padded (by (lowers_of s g d)) (entries_in s g));
      means = if_standing (has_means h) (listed_rows s g (means_of s g h d));
      margin = cond (has_lowers h) (margin_of b d) 0;
    }

abbrev merged_in : (ℕ → ℕ → ℕ → ℕ) → List ℕ → Shape → Numbers → Shape → Numbers → Numbers
merged_in place b h former k second =
    let s = states_of b in
    let g = symbols_of b in
    record {
      uppers = kept_to min (entries_in s g) former.uppers second.uppers;
      lowers = if_standing (has_lowers h && has_lowers k) (kept_to max (entries_in s g) former.lowers second.lowers);
      means = means_to (rows_in s g) (has_means h) (has_means k) former.means second.means;
      margin = cond (has_lowers h && has_lowers k)
          (margin (rules_of b) s g (λ p z q. get_or (kept_to min (entries_in s g) former.uppers second.uppers) (place p z q) 0)) 0;
    }

-- Whatever the order, of accepted deliveries the merged numbers are those of the merged file.
pub merged_in_order : (b e d : List ℕ) (one : RightFiles b e) (other : RightFiles b d) {place : ℕ → ℕ → ℕ → ℕ} {by : Vector → ℕ → ℕ}
    → Ordered (states_of b) (symbols_of b) place by
    → merged_in place b one.shaped (numbers_in by b one.shaped e) other.shaped (numbers_in by b other.shaped d)
    ≡ numbers_in by b (merged_shape one.shaped other.shaped) (merged b e d)
unfolding margin_of
merged_in_order b e d one other {place} {by} o =
    let s = states_of b in
    let g = symbols_of b in
    let h = one.shaped in
    let k = other.shaped in
    let model = is_model_lem b one.model in
    let fits = sized_fits (sized_of ((model_accepted b).1 one.model) refl refl) in
    let fit = files_fit b e d one other in
    let listed-uppers : kept_to min (entries_in s g) (padded (by (uppers_of s g e)) (entries_in s g)) (padded (by (uppers_of s g d)) (entries_in s g))
    ≡ padded (by (uppers_of s g (merged_of s g h k e d))) (entries_in s g) =
    kept_listed o fits.few_entries min (uppers_of s g e) (uppers_of s g d) _ (merged_uppers s g h k e d fit) in
    rw (
      merged_is b e d one.delivery.shape other.delivery.shape,
      listed-uppers,
      lowers_with (has_lowers h && has_lowers k) (has_means h || has_means k),
      means_with (has_lowers h && has_lowers k) (has_means h || has_means k),
      both_listed o fits.few_entries (has_lowers h) (has_lowers k) (lowers_of s g e) (lowers_of s g d) (lowers_of s g (merged_of s g h k e d))
          (λ has. merged_lowers s g h k e d fit (lowers_with (has_lowers h && has_lowers k) (has_means h || has_means k) ∙ has)),
      means_listed fits (has_means h) (has_means k) (means_of s g h e) (means_of s g k d) (means_of s g (merged_shape h k) (merged_of s g h k e d))
          (λ has. merged_means_lem s g h k e d fit (means_with (has_lowers h && has_lowers k) (has_means h || has_means k) ∙ has)),
      margin_same model (λ p z q. get_or (padded (by (uppers_of s g (merged_of s g h k e d))) (entries_in s g)) (place p z q) 0) (uppers_of s g (merged_of s g h k e d))
          (λ p z q hp hz hq. listed_at o (uppers_of s g (merged_of s g h k e d)) p z q hp hz hq fits.few_entries),
    )

-- So are those that the register holds after a merge.
pub merged_numbers : (b e d : List ℕ) (one : RightFiles b e) (other : RightFiles b d)
    → numbers_merged b one.shaped (numbers_held b one.shaped e) other.shaped (numbers_held b other.shaped d)
    ≡ numbers_held b (merged_shape one.shaped other.shaped) (merged b e d)
unfolding numbers_merged numbers_held
merged_numbers b e d one other = merged_in_order b e d one other (exit_ordered (states_of b) (symbols_of b))
