-- u − f(u) of accepted files: from the block of uppers alone, which stand, and of which the numbers are those of the whole file.
use Prim.Native.Nat.{ℕ, ◌-◌, ◌*◌, ◌/◌, ◌%◌, ◌≤◌, ◌<◌}
use mathlib.Core.List.{List}
use mathlib.Core.Path.{◌≡◌, ap₂, subst, ◌∙◌}
use lib.ListN.{length, take, get_or}
use Rattle.ppda.specs.Units.{chance_unit, sum_unit}
use Rattle.walks.specs.Order.{entries_in, row_at}
use Rattle.ppda.specs.Equations.{f, Same}
use Rattle.walks.proofs.Places.{row_at_lem, entry_below}
use Rattle.ppda.proofs.Vectors.{f_same}
use Rattle.model.specs.declared.sizes.Sizes.{Sizes}
use Rattle.model.specs.Sizes.{sizes_of}
use Rattle.model.specs.Clauses.{Sized}
use Rattle.model.specs.Rules.{rules_of}
use Rattle.model.proofs.Accepted.{sized_model}
use Rattle.delivery.specs.Format.{record_bytes}
use Rattle.delivery.specs.Shapes.{shape_of}
use Rattle.delivery.specs.Numbers.{uppers_of}
use Rattle.delivery.proofs.Shapes.{uppers_fit}
use Rattle.rows.specs.Clauses.{Indexed}
use Rattle.shares.specs.Gap.{gap_at}
use Rattle.shares.specs.Clauses.{Standing}
use Rattle.verdict.specs.Accepted.{UppersRight}
use Rattle.verdict.specs.Verdict.{verdict}
use Rattle.verdict.proofs.Accepted.{delivery_accepted}
use Rattle.certificate.proofs.Blocks.{part_same}
use Rattle.certificate.proofs.Rest.{uppers_within}
use Rattle.certificate.proofs.Steps.{sized_by_verdict}
use Rattle.gaps.specs.Clauses.{Gaps}
use Rattle.outcome.specs.Outcomes.{Accepted}
use Rattle.std.specs.Prelude.{Some}

-- ---- every entry, by its number

-- u − f(u) of entry number e, which is exit e % s of row number e / s.
abbrev pub gap_by : List ℕ → Sizes → List ℕ → ℕ → ℕ
gap_by b n d e = gap_at b n.states n.symbols d (e / n.states / n.symbols) (e / n.states % n.symbols) (e % n.states)

-- A list that has u − f(u) of each entry at its number.
pub gaps_filled : (b d l : List ℕ) (n : Sizes) → ((e : ℕ) → e < entries_in n.states n.symbols → get_or l e 0 ≡ gap_by b n d e) → Gaps b n d l
gaps_filled b d l n filled p z q hp hz hq =
    let (is_row, is-q) = row_at_lem n.states (row_at n.symbols p z) q hq in
    let (is-p, is-z) = row_at_lem n.symbols p z hz in
    filled _ (entry_below n.states n.symbols p z q hp hz hq) ∙ rw (is_row, is-q, is-p, is-z)

-- ---- the first k records of an accepted delivery, where k is the number of entries

module _ {b : List ℕ} (d : List ℕ) {s g k : ℕ} (sized : Sized b s g) (accepted : verdict b d ≡ Accepted) (e : k ≡ entries_in s g) where
  shaped : shape_of s g d ≡ Some ((delivery_accepted b d).0 accepted).shaped
  shaped = rw (sized.states, sized.symbols) ((delivery_accepted b d).0 accepted).delivery.shape

  uppers_right : UppersRight b s g d
  uppers_right = rw (sized.states, sized.symbols) ((delivery_accepted b d).0 accepted).delivery.uppers

  pub block_fits : record_bytes * k ≤ length d
  block_fits = rw e (uppers_fit s g d _ shaped)

  f_of_block : (p z q : ℕ) → q < s
      → f (rules_of b) s chance_unit (uppers_of s g (take (record_bytes * k) d)) p z q ≡ f (rules_of b) s chance_unit (uppers_of s g d) p z q
  f_of_block = f_same (sized_model sized) chance_unit _ _ (part_same s g d e)

  pub gap_of_block : Same s g (gap_at b s g (take (record_bytes * k) d)) (gap_at b s g d)
  unfolding gap_at
  gap_of_block p z q hp hz hq = ap₂ (λ u y. u * sum_unit - y) (part_same s g d e p z q hp hz hq) (f_of_block p z q hq)

module _ (b d : List ℕ) {n : Sizes} {k : ℕ} (e : k ≡ entries_in n.states n.symbols) (accepted : verdict b d ≡ Accepted) where
  pub block_stands : {starts : List ℕ} → Indexed b n starts → Standing b n starts (take (record_bytes * k) d)
  unfolding uppers_of
  block_stands indexed =
      let sized = indexed.sized in
      let right = uppers_right d sized accepted e in
      record {
        indexed = indexed;
        chances = rw e (uppers_within _ _ d (shaped d sized accepted e) (λ p z q hp hz hq. (right.due p z q hp hz hq).most));
        above = λ p z q hp hz hq.
            rw (f_of_block d sized accepted e p z q hq, part_same _ _ d e p z q hp hz hq) (right.upper p z q hp hz hq);
      }

  pub gaps_of_block : (l : List ℕ) → n ≡ sizes_of b → Gaps b n (take (record_bytes * k) d) l → Gaps b (sizes_of b) d l
  gaps_of_block l is so =
      subst (λ m. Gaps b m d l) is
      (λ p z q hp hz hq. so p z q hp hz hq ∙ gap_of_block d (sized_by_verdict d accepted is) accepted e p z q hp hz hq)
