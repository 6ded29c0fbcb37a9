-- The rest of a file, from record V on: what it starts with and that it is in range, and that the tests of the file's numbers are those of
-- the uppers and of the rest.
use Prim.Native.Nat.{ℕ, ◌+◌, ◌*◌, ◌≤◌, ◌<◌}
use native.Mathlib.Omega.{arith}
use mathlib.Core.Bool.{Bool, true, false, cond}
use mathlib.Core.List.{List, ◌++◌}
use mathlib.Core.Path.{◌≡◌, refl, ap, ◌∙◌}
use lib.ListN.{length, take, drop, length-drop}
use lib.Seq.{drop-drop}
use Rattle.ppda.specs.Units.{most_chance, most_mean}
use Rattle.delivery.specs.Format.{record_bytes}
use Rattle.outcome.specs.Tests.{first}
use Rattle.ppda.specs.Rules.{IsModel}
use Rattle.ppda.specs.Equations.{Vector, SameRows, Same}
use Rattle.ppda.specs.Live.{alive}
use Rattle.model.specs.Rules.{rules_of}
use Rattle.walks.proofs.Places.{row_split}
use Rattle.walks.proofs.Exits.{file_ordered, at_places}
use Rattle.delivery.specs.declared.shape.Shape.{Shape}
use Rattle.delivery.specs.Records.{value_at}
use Rattle.delivery.specs.Shapes.{has_lowers, has_means, means_from, records_in, shape_of}
use Rattle.walks.specs.Order.{entries_in, rows_in, entry_at, row_at, AtEntries, AtRows}
use Rattle.delivery.specs.Numbers.{uppers_of, lowers_of, means_of}
use Rattle.delivery.specs.Clauses.{rows_of_block, Within}
use Rattle.layout.specs.Layout.{layout_tests}
use Rattle.delivery.proofs.Shapes.{shape_long, uppers_fit, lowers_fit}
use Rattle.delivery.proofs.Values.{rest_value}
use Rattle.inequalities.specs.Inequalities.{dead_tests}
use Rattle.verdict.specs.Verdict.{number_tests}
use Rattle.certificate.specs.Clauses.{RestRead, means_block, rest_means, rest_tests}
use Rattle.verdict.proofs.Accepted.{layout_right}
use Rattle.certificate.proofs.Blocks.{itself, dead_same, below_same, upper_same, lower_same, mean_same, ends_within, part_within}
use Rattle.outcome.specs.Outcomes.{Accepted}
use Rattle.std.specs.Prelude.{Some}

-- ---- the numbers of the rest

pub rest_lowers : (s g : ℕ) (d : List ℕ) → Same s g (uppers_of s g (drop (record_bytes * entries_in s g) d)) (lowers_of s g d)
unfolding uppers_of lowers_of
rest_lowers s g d p z q hp hz hq = rest_value d (entries_in s g) (entry_at s g p z q)

-- The block of mean steps stands where the shape's mean steps start.
means_block_lem : (s g : ℕ) (h : Shape) (d : List ℕ) → means_block s g h (drop (record_bytes * entries_in s g) d) ≡ drop (record_bytes * means_from s g h) d
unfolding means_block means_from
means_block_lem s g h d = go (has_lowers h)
  where
    twice : record_bytes * entries_in s g + record_bytes * entries_in s g ≡ record_bytes * (entries_in s g + entries_in s g)
    twice = omega arith

    go : (t : Bool) → cond t (drop (record_bytes * entries_in s g) (drop (record_bytes * entries_in s g) d)) (drop (record_bytes * entries_in s g) d)
        ≡ drop (record_bytes * cond t (entries_in s g + entries_in s g) (entries_in s g)) d
    go true = drop-drop (record_bytes * entries_in s g) (record_bytes * entries_in s g) d ∙ ap (λ n. drop n d) twice
    go false = refl

pub rest_means_lem : (s g : ℕ) (h : Shape) (d : List ℕ)
    → SameRows s g (rows_of_block g (means_block s g h (drop (record_bytes * entries_in s g) d))) (means_of s g h d)
unfolding means_of
rest_means_lem s g h d p z hp hz =
    ap (λ l. value_at l (row_at g p z)) (means_block_lem s g h d) ∙ rest_value d (means_from s g h) (row_at g p z)

-- ---- a right layout has its numbers in range

-- Every number below V is that of an entry, and every number below s × g that of a row.
pub at_numbers : {s g : ℕ} (P : ℕ → Type 0) → AtEntries s g (λ p z q. P (entry_at s g p z q)) → (e : ℕ) → e < entries_in s g → P e
at_numbers {s} {g} P at = at_places (file_ordered s g) P at

pub at_row_numbers : {s g : ℕ} (P : ℕ → Type 0) → AtRows s g (λ p z. P (row_at g p z)) → (e : ℕ) → e < rows_in s g → P e
at_row_numbers {s} {g} P at e h = let (p, z, hp, hz, here) = row_split s g e h in rw here (at p z hp hz)

module _ (s g : ℕ) (d : List ℕ) {h : Shape} (shape : shape_of s g d ≡ Some h) where
  pub uppers_within : AtEntries s g (λ p z q. uppers_of s g d p z q ≤ most_chance) → Within (take (record_bytes * entries_in s g) d) (entries_in s g) most_chance
  unfolding uppers_of
  uppers_within most = part_within d (entries_in s g) most_chance (uppers_fit s g d h shape) (at_numbers (λ e. value_at d e ≤ most_chance) most)

  -- The file ends with its mean steps.
  means_end : has_means h ≡ true → length (drop (record_bytes * means_from s g h) d) ≡ record_bytes * rows_in s g
  unfolding records_in
  means_end has = rw (length-drop (record_bytes * means_from s g h) d) (omega (arith, rw has at (shape_long s g d h shape)))

  module _ (layout : first (layout_tests s g h d) ≡ Accepted) where
    pub uppers_read : Within (take (record_bytes * entries_in s g) d) (entries_in s g) most_chance
    unfolding uppers_of
    uppers_read = uppers_within (λ p z q hp hz hq. ((layout_right s g h d layout).0 p z q hp hz hq).most)

    lowers_read : has_lowers h ≡ true
        → Within (take (record_bytes * entries_in s g) (drop (record_bytes * entries_in s g) d)) (entries_in s g) most_chance
    lowers_read has =
        part_within (drop (record_bytes * entries_in s g) d) (entries_in s g) most_chance
        (rw (length-drop (record_bytes * entries_in s g) d) (omega (arith, lowers_fit s g d h shape has)))
        (λ e l. rw (rest_value d (entries_in s g) e)
        (at_numbers (λ i. value_at d (entries_in s g + i) ≤ most_chance)
        (λ p z q hp hz hq. ((layout_right s g h d layout).1.0 has p z q hp hz hq).most) e l))

    means_read : has_means h ≡ true → Within (means_block s g h (drop (record_bytes * entries_in s g) d)) (rows_in s g) most_mean
    means_read has =
        rw (means_block_lem s g h d) (ends_within (drop (record_bytes * means_from s g h) d) (rows_in s g) most_mean (means_end has)
        (λ e l. rw (rest_value d (means_from s g h) e)
        (at_row_numbers (λ i. value_at d (means_from s g h + i) ≤ most_mean)
        (λ p z hp hz. ((layout_right s g h d layout).1.1 has p z hp hz).most) e l)))

    pub rest_read : RestRead s g h (drop (record_bytes * entries_in s g) d)
    rest_read = record { lowers = lowers_read; means = means_read }

-- ---- the tests by the rest

module _ (b : List ℕ) {s g : ℕ} (model : IsModel s g (rules_of b)) (h : Shape) where
  pub rest_same : {a a' u u' : Vector} (rest : List ℕ) → Same s g a a' → Same s g u u'
      → rest_tests b s g h a u rest ≡ rest_tests b s g h a' u' rest
  unfolding rest_tests rest_means
  rest_same rest marks uppers =
      rw (
        dead_same (entries_in s g) marks (itself (uppers_of s g rest)),
        upper_same model (has_lowers h) marks uppers,
        below_same (itself (uppers_of s g rest)) uppers,
        mean_same model (means_from s g h) uppers (λ p z hp hz. refl {a = value_at (means_block s g h rest) (row_at g p z)}),
      )

  pub numbers_by_rest : (d : List ℕ) → number_tests b s g h d
      ≡ dead_tests s g (alive (rules_of b) s g) (uppers_of s g d) 0
      ++ rest_tests b s g h (alive (rules_of b) s g) (uppers_of s g d) (drop (record_bytes * entries_in s g) d)
  unfolding number_tests rest_tests rest_means
  numbers_by_rest d =
      rw (
        dead_same (entries_in s g) (itself (alive (rules_of b) s g)) (rest_lowers s g d),
        below_same (rest_lowers s g d) (itself (uppers_of s g d)),
        lower_same model (rest_lowers s g d),
        mean_same model (means_from s g h) (itself (uppers_of s g d)) (rest_means_lem s g h d),
      )
