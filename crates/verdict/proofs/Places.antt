-- The number and the place of a refused delivery: where the reason names a record of the model, 11 to 14, or of the delivery, 21 to 27, it is a whole
-- record of that file. It is below 65,536 in any case: that of a refused model is, and beside a model that passes a delivery has no more
-- records than the limit.
use Prim.Native.Nat.{ℕ, ◌+◌, ◌/◌, ◌≤◌, ◌<◌}
use native.Mathlib.Omega.{arith}
use mathlib.Core.Bool.{Bool, true, false}
use mathlib.Core.List.{List, [], ◌∷◌, ◌++◌}
use mathlib.Core.Path.{◌≡◌, refl}
use lib.IntN.{ℤ}
use lib.ListN.{length}
use Rattle.delivery.specs.Format.{record_bytes, most_records}
use Rattle.outcome.specs.declared.Reason.{Reason}
use Rattle.outcome.specs.Reasons.{number_of}
use Rattle.outcome.specs.Tests.{Test, first}
use Rattle.outcome.proofs.Tests.{Refusals, refusals_none, refusals_cons, refusals_append, refusals_each, refusals_weaken}
use Rattle.walks.proofs.Places.{row_below, entry_below}
use Rattle.model.specs.Records.{records_of, states_of, symbols_of}
use Rattle.model.specs.Clauses.{Fits}
use Rattle.model.proofs.Records.{sizes_fit}
use Rattle.wellformed.specs.Verdict.{model_verdict, model_tests}
use Rattle.wellformed.proofs.Accepted.{model_accepted}
use Rattle.wellformed.proofs.Places.{model_places}
use Rattle.delivery.specs.declared.shape.Block.{Block}
use Rattle.delivery.specs.declared.shape.Block.TheVariants.{Uppers, Lowers, Means}
use Rattle.delivery.specs.declared.shape.Shape.{Shape}
use Rattle.delivery.specs.declared.shape.Shape.TheVariants.{U, UL, UR, ULR}
use Rattle.delivery.specs.Shapes.{has_lowers, has_means, means_from, records_in, shape_of}
use Rattle.walks.specs.Order.{entries_in, entry_at, row_at, each_entry, each_row}
use Rattle.layout.specs.Layout.{only_if, record_tests, upper_records, lower_records, mean_records, layout_tests}
use Rattle.delivery.proofs.Shapes.{shape_long, uppers_fit, lowers_fit, means_fit}
use Rattle.inequalities.specs.Inequalities.{dead_test, upper_test, below_test, lower_test, mean_test, dead_tests, upper_tests, below_tests, lower_tests, mean_tests}
use Rattle.verdict.specs.Verdict.{number_tests, shaped_tests, delivery_tests, verdict}
use Rattle.outcome.specs.Outcomes.{Refused}
use Rattle.std.specs.Prelude.{Option, Some, None}

-- ---- the tests of a delivery that has a shape

-- The reason is one of 21 to 27, by its number, and the place is a whole record of the file d.
record AtRecord (d : List ℕ) (r : Reason) (i : ℕ) : Type 0 where
  number : 21 ≤ number_of r
  most : number_of r ≤ 27
  whole : i < length d / record_bytes

both : {d : List ℕ} {xs ys : List Test} → Refusals (AtRecord d) xs → Refusals (AtRecord d) ys → Refusals (AtRecord d) (xs ++ ys)
both f g = refusals_append f (λ e. g)

only : {d : List ℕ} {ts : List Test} (t : Bool) → (t ≡ true → Refusals (AtRecord d) ts) → Refusals (AtRecord d) (only_if t ts)
only true f = f refl
only false f = refusals_none

one : {d : List ℕ} {t : Test} → 21 ≤ number_of t.reason → number_of t.reason ≤ 27 → t.place < length d / record_bytes → Refusals (AtRecord d) (t ∷ [])
one n m l = refusals_cons (record { number = n; most = m; whole = l }) (λ e. refusals_none)

at_record : (d : List ℕ) {i : ℕ} (k : Block) (p z q : ℕ) → i < length d / record_bytes → Refusals (AtRecord d) (record_tests d i k p z q)
unfolding record_tests
at_record d k p z q l = refusals_cons (record { number = omega arith; most = omega arith; whole = l }) (λ e. one (omega arith) (omega arith) l)

module _ (s g : ℕ) (d : List ℕ) (h : Shape) (of : shape_of s g d ≡ Some h) where
  -- Tests at every record of a block.
  at_uppers : {ts : ℕ → ℕ → ℕ → List Test} → ((p z q : ℕ) → entry_at s g p z q < length d / record_bytes → Refusals (AtRecord d) (ts p z q))
      → Refusals (AtRecord d) (each_entry s g ts)
  unfolding each_entry
  at_uppers f =
      refusals_each s (λ p hp. refusals_each g (λ z hz. refusals_each s (λ q hq.
      f p z q (omega (arith, entry_below s g p z q hp hz hq, uppers_fit s g d h of)))))

  at_lowers : {ts : ℕ → ℕ → ℕ → List Test}
      → ((p z q : ℕ) → entries_in s g + entry_at s g p z q < length d / record_bytes → Refusals (AtRecord d) (ts p z q))
      → Refusals (AtRecord d) (only_if (has_lowers h) (each_entry s g ts))
  unfolding each_entry
  at_lowers f =
      only (has_lowers h) (λ e. refusals_each s (λ p hp. refusals_each g (λ z hz. refusals_each s (λ q hq.
      f p z q (omega (arith, entry_below s g p z q hp hz hq, lowers_fit s g d h of e))))))

  at_means : {ts : ℕ → ℕ → List Test} → ((p z : ℕ) → means_from s g h + row_at g p z < length d / record_bytes → Refusals (AtRecord d) (ts p z))
      → Refusals (AtRecord d) (only_if (has_means h) (each_row s g ts))
  unfolding each_row
  at_means f =
      only (has_means h) (λ e. refusals_each s (λ p hp. refusals_each g (λ z hz.
      f p z (omega (arith, row_below s g p z hp hz, means_fit s g d h of e)))))

  layout_places : Refusals (AtRecord d) (layout_tests s g h d)
  unfolding layout_tests upper_records lower_records mean_records
  layout_places =
      both (at_uppers (λ p z q l. at_record d Uppers p z q l))
      (both (at_lowers (λ p z q l. at_record d Lowers p z q l))
      (at_means (λ p z l. at_record d Means p z 0 l)))

  number_places : (b : List ℕ) → Refusals (AtRecord d) (number_tests b s g h d)
  unfolding number_tests dead_tests dead_test upper_tests upper_test below_tests below_test lower_tests lower_test mean_tests mean_test
  number_places b =
      both (at_uppers (λ p z q l. one (omega arith) (omega arith) (omega arith)))
      (both (at_lowers (λ p z q l. one (omega arith) (omega arith) l))
      (both (at_uppers (λ p z q l. one (omega arith) (omega arith) l))
      (both (at_lowers (λ p z q l. one (omega arith) (omega arith) l))
      (both (at_lowers (λ p z q l. one (omega arith) (omega arith) l))
      (at_means (λ p z l. one (omega arith) (omega arith) l))))))

-- ---- the verdict

-- A delivery's numbers are 20 to 27.
shaped_numbers : (b d : List ℕ) (s g : ℕ) (t : Option Shape) → shape_of s g d ≡ t
    → Refusals (λ r i. (20 ≤ number_of r) × (number_of r ≤ 27)) (shaped_tests b s g t d)
unfolding shaped_tests
shaped_numbers b d s g None of = refusals_cons (omega arith, omega arith) (λ e. refusals_none)
shaped_numbers b d s g (Some h) of =
    refusals_weaken (λ r i x. (omega (arith, x.number), x.most)) (both (layout_places s g d h of) (number_places s g d h of b))

pub delivery_number : (b d : List ℕ) (r : Reason) (i : ℕ) (k : ℤ) → first (delivery_tests b d) ≡ Refused r i k
    → (20 ≤ number_of r) × (number_of r ≤ 27)
unfolding delivery_tests
delivery_number b d r i k e = (shaped_numbers b d (states_of b) (symbols_of b) _ refl).refused _ e

-- What holds of a refusal's reason and place.
record Placed (b d : List ℕ) (r : Reason) (i : ℕ) : Type 0 where
  small : i < 65536
  rule : 11 ≤ number_of r → number_of r ≤ 14 → i < records_of b
  bound : 21 ≤ number_of r → number_of r ≤ 27 → i < length d / record_bytes

few_records : {s g : ℕ} (h : Shape) → Fits s g → records_in s g h ≤ most_records
unfolding records_in means_from
few_records U fits = omega (arith, fits.few_entries)
few_records UL fits = omega (arith, fits.few_entries)
few_records UR fits = omega (arith, fits.few_entries, fits.few_rows)
few_records ULR fits = omega (arith, fits.few_entries, fits.few_rows)

-- A delivery for a model whose sizes fit.
shaped_places : (b d : List ℕ) (s g : ℕ) → Fits s g → (t : Option Shape) → shape_of s g d ≡ t → Refusals (Placed b d) (shaped_tests b s g t d)
unfolding shaped_tests
shaped_places b d s g fits None of =
    refusals_cons
    (record { small = omega arith; rule = λ from to. absurd (omega arith); bound = λ from to. absurd (omega arith) })
    (λ e. refusals_none)
shaped_places b d s g fits (Some h) of =
    refusals_weaken
    (λ r i x. record {
      small = omega (arith, shape_long s g d h of, few_records h fits);
      rule = λ from to. absurd (omega arith);
      bound = λ from to. x.whole;
    })
    (both (layout_places s g d h of) (number_places s g d h of b))

verdict_places : (b d : List ℕ) → Refusals (Placed b d) (model_tests b ++ delivery_tests b d)
unfolding delivery_tests model_verdict
verdict_places b d =
    refusals_append
    (refusals_weaken (λ r i x. record { small = x.small; rule = x.whole; bound = λ from to. absurd (omega arith) }) (model_places b))
    (λ e.
    let right = ((model_accepted b).0 e).records.right in
    shaped_places b d (states_of b) (symbols_of b) (sizes_fit b right) _ refl)

pub place_fits : (b d : List ℕ) (r : Reason) (i : ℕ) (k : ℤ) → verdict b d ≡ Refused r i k → i < 65536
unfolding verdict
place_fits b d r i k e = ((verdict_places b d).refused _ e).small

-- A place that is a record, of the model or of the delivery, is a whole one.
pub rule_record_lem : (b d : List ℕ) (r : Reason) (i : ℕ) (k : ℤ) → verdict b d ≡ Refused r i k → 11 ≤ number_of r → number_of r ≤ 14
    → i < records_of b
unfolding verdict
rule_record_lem b d r i k e = ((verdict_places b d).refused _ e).rule

pub bound_record : (b d : List ℕ) (r : Reason) (i : ℕ) (k : ℤ) → verdict b d ≡ Refused r i k → 21 ≤ number_of r → number_of r ≤ 27
    → i < length d / record_bytes
unfolding verdict
bound_record b d r i k e = ((verdict_places b d).refused _ e).bound
