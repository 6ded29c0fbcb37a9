-- The tests of a block of numbers, as the code goes through them: they read no number but those of the model's entries and rows, in the
-- code's order they are the tests by (p, Z, q), and a part of a file that ends with a block stands for the block.
use Prim.Native.Nat.{ℕ, ◌+◌, ◌*◌, ◌≤◌, ◌<◌}
use native.Mathlib.Nat.{zero-add}
use native.Mathlib.Omega.{arith}
use mathlib.Core.Bool.{Bool, true, false, cond}
use mathlib.Core.List.{List, [], ◌∷◌}
use mathlib.Core.Path.{◌≡◌, refl, sym, ap, ap₂, ◌∙◌}
use lib.Dec.{ltb}
use lib.ListN.{length, take, get_or, get_or-eq_default}
use lib.Seq.{length-take-le, get_or-take}
use borrow.Author.Tests.{ltb-true, ltb-false}
use Rattle.ppda.specs.Units.{chance_unit, step_unit}
use Rattle.delivery.specs.Format.{record_bytes, value_byte}
use Rattle.words.specs.Words.{word_at}
use Rattle.outcome.specs.Tests.{Test}
use Rattle.walks.specs.Lists.{each}
use Rattle.walks.proofs.Lists.{each_cong}
use Rattle.ppda.specs.Rules.{Rule, IsModel}
use Rattle.ppda.specs.Equations.{Vector, RowVector, f, SameRows, Same}
use Rattle.ppda.specs.Live.{is_live}
use Rattle.model.specs.Rules.{rules_of}
use Rattle.delivery.specs.Records.{value_at}
use Rattle.walks.specs.Order.{entries_in, entry_at, row_at, each_entry, each_row}
use Rattle.delivery.specs.Numbers.{uppers_of}
use Rattle.delivery.specs.Clauses.{rows_of_block, Within}
use Rattle.walks.proofs.Orders.{entries_by_number}
use Rattle.live.specs.Clauses.{exit_marks}
use Rattle.walks.proofs.Places.{entry_below}
use Rattle.ppda.proofs.Vectors.{f_same, mean_side_same}
use Rattle.inequalities.specs.declared.sides.Side.TheVariants.{Upper, StrictUpper, Lower}
use Rattle.inequalities.specs.Inequalities.{dead_test, upper_test, below_test, lower_test, mean_test, dead_tests, upper_tests, below_tests, lower_tests, mean_tests}
use Rattle.inequalities.specs.Clauses.{dead_at, below_at, side_test, side_from, side_at, mean_at}

-- ---- the same numbers, the same tests

entries_cong : (s g : ℕ) (h k : ℕ → ℕ → ℕ → List Test) → ((p z q : ℕ) → p < s → z < g → q < s → h p z q ≡ k p z q)
    → each_entry s g h ≡ each_entry s g k
unfolding each_entry
entries_cong s g h k e =
    each_cong _ _ s (λ p hp. each_cong _ _ g (λ z hz. each_cong (h p z) (k p z) s (λ q hq. e p z q hp hz hq)))

rows_cong : (s g : ℕ) (h k : ℕ → ℕ → List Test) → ((p z : ℕ) → p < s → z < g → h p z ≡ k p z) → each_row s g h ≡ each_row s g k
unfolding each_row
rows_cong s g h k e = each_cong _ _ s (λ p hp. each_cong (h p) (k p) g (λ z hz. e p z hp hz))

-- A vector is the same as itself.
pub itself : {s g : ℕ} (v : Vector) → Same s g v v
itself v p z q hp hz hq = refl

pub dead_same : {s g : ℕ} {a a' v v' : Vector} (from : ℕ) → Same s g a a' → Same s g v v'
    → dead_tests s g a v from ≡ dead_tests s g a' v' from
unfolding dead_tests
dead_same {s} {g} from marks numbers =
    entries_cong s g _ _ (λ p z q hp hz hq.
    ap₂ (λ m n. dead_test (is_live m) n (from + entry_at s g p z q) ∷ []) (marks p z q hp hz hq) (numbers p z q hp hz hq))

pub below_same : {s g : ℕ} {l l' u u' : Vector} → Same s g l l' → Same s g u u' → below_tests s g l u ≡ below_tests s g l' u'
unfolding below_tests
below_same {s} {g} lowers uppers =
    entries_cong s g _ _ (λ p z q hp hz hq.
    ap₂ (λ m n. below_test m n (entries_in s g + entry_at s g p z q) ∷ []) (lowers p z q hp hz hq) (uppers p z q hp hz hq))

module _ {m : List Rule} {s g : ℕ} (model : IsModel s g m) where
  pub upper_same : {a a' u u' : Vector} (t : Bool) → Same s g a a' → Same s g u u' → upper_tests m s g t a u ≡ upper_tests m s g t a' u'
  unfolding upper_tests
  upper_same {a} {a'} {u} {u'} t marks uppers =
      entries_cong s g _ _ (λ p z q hp hz hq.
      ap (λ n. upper_test t (is_live n) (u p z q) (f m s chance_unit u p z q) (entry_at s g p z q) ∷ []) (marks p z q hp hz hq)
      ∙ ap₂ (λ n y. upper_test t (is_live (a' p z q)) n y (entry_at s g p z q) ∷ [])
      (uppers p z q hp hz hq) (f_same model chance_unit u u' uppers p z q hq))

  pub lower_same : {l l' : Vector} → Same s g l l' → lower_tests m s g l ≡ lower_tests m s g l'
  unfolding lower_tests
  lower_same {l} {l'} lowers =
      entries_cong s g _ _ (λ p z q hp hz hq.
      ap₂ (λ n y. lower_test n y (entries_in s g + entry_at s g p z q) ∷ [])
      (lowers p z q hp hz hq) (f_same model chance_unit l l' lowers p z q hq))

  pub mean_same : {u u' : Vector} {r r' : RowVector} (from : ℕ) → Same s g u u' → SameRows s g r r'
      → mean_tests m s g u r from ≡ mean_tests m s g u' r' from
  unfolding mean_tests
  mean_same {u} {u'} {r} {r'} from uppers means =
      rows_cong s g _ _ (λ p z hp hz.
      ap₂ (λ n y. mean_test n y (from + row_at g p z) ∷ [])
      (means p z hp hz) (mean_side_same model chance_unit step_unit u u' r r' uppers means p z))

-- ---- the tests as the code goes through them

pub dead_by_entry : (s g : ℕ) (a d : List ℕ) (from : ℕ)
    → each_entry s g (dead_at s g a d from) ≡ dead_tests s g (exit_marks g a) (uppers_of s g d) from
unfolding dead_tests
dead_by_entry s g a d from = refl

pub below_by_number : (s g : ℕ) (l u : List ℕ)
    → each (s * g * s) (below_at l u (entries_in s g)) ≡ below_tests s g (uppers_of s g l) (uppers_of s g u)
unfolding below_tests uppers_of
below_by_number s g l u = sym (entries_by_number s g _ (below_at l u (entries_in s g)) (λ p z q hp hz hq. refl))

-- The sides of uppers, by whether lowers stand.
upper_side : (t a : Bool) (s g u y i : ℕ) → side_test (cond t StrictUpper Upper) a u y (side_from (cond t StrictUpper Upper) s g + i) ≡ upper_test t a u y i
upper_side true a s g u y i = ap (upper_test true a u y) (zero-add i)
upper_side false a s g u y i = ap (upper_test false a u y) (zero-add i)

module _ (b : List ℕ) (s g : ℕ) where
  pub uppers_by_side : (t : Bool) (a d : List ℕ)
      → each_entry s g (side_at (cond t StrictUpper Upper) b s g a d) ≡ upper_tests (rules_of b) s g t (exit_marks g a) (uppers_of s g d)
  unfolding upper_tests
  uppers_by_side t a d = entries_cong s g _ _ (λ p z q hp hz hq. ap (λ x. x ∷ []) (upper_side t _ s g _ _ _))

  pub lowers_by_side : (a d : List ℕ)
      → each_entry s g (side_at Lower b s g a d) ≡ lower_tests (rules_of b) s g (uppers_of s g d)
  unfolding lower_tests
  lowers_by_side a d = refl

  pub means_by_row : (u r : List ℕ) (from : ℕ)
      → each_row s g (mean_at b s g u r from) ≡ mean_tests (rules_of b) s g (uppers_of s g u) (rows_of_block g r) from
  unfolding mean_tests
  means_by_row u r from = refl

-- ---- a part of a file that ends with its block

-- The first n records have the file's values.
part_value : (d : List ℕ) (n e : ℕ) → e < n → value_at (take (record_bytes * n) d) e ≡ value_at d e
unfolding value_at word_at
part_value d n e h = rw (byte at (omega arith), byte (at + 1) (omega arith), byte (at + 2) (omega arith), byte (at + 3) (omega arith))
  where
    at : ℕ
    at = record_bytes * e + value_byte

    byte : (i : ℕ) → i < record_bytes * n → get_or (take (record_bytes * n) d) i 0 ≡ get_or d i 0
    byte i l = get_or-take (record_bytes * n) d i 0 l

pub part_same : (s g : ℕ) (d : List ℕ) {n : ℕ} → n ≡ entries_in s g → Same s g (uppers_of s g (take (record_bytes * n) d)) (uppers_of s g d)
unfolding uppers_of
part_same s g d {n} e p z q hp hz hq = part_value d n (entry_at s g p z q) (rw e (entry_below s g p z q hp hz hq))

-- Past the last record every value is 0.
past_end : (d : List ℕ) (n e : ℕ) → length d ≡ record_bytes * n → n ≤ e → value_at d e ≡ 0
unfolding value_at word_at
past_end d n e ends h = rw (byte at (omega arith), byte (at + 1) (omega arith), byte (at + 2) (omega arith), byte (at + 3) (omega arith))
  where
    at : ℕ
    at = record_bytes * e + value_byte

    byte : (i : ℕ) → length d ≤ i → get_or d i 0 ≡ 0
    byte i l = get_or-eq_default d 0 l

pub ends_within : (d : List ℕ) (n a : ℕ) → length d ≡ record_bytes * n → ((e : ℕ) → e < n → value_at d e ≤ a) → Within d n a
ends_within d n a ends most = record { whole = omega arith; most = λ e. go e (ltb e n) refl }
  where
    go : (e : ℕ) (t : Bool) → ltb e n ≡ t → value_at d e ≤ a
    go e true q = most e (ltb-true e n q)
    go e false q = omega (arith, past_end d n e ends (ltb-false e n q))

pub part_within : (d : List ℕ) (n a : ℕ) → record_bytes * n ≤ length d → ((e : ℕ) → e < n → value_at d e ≤ a) → Within (take (record_bytes * n) d) n a
part_within d n a whole most =
    ends_within (take (record_bytes * n) d) n a (length-take-le (record_bytes * n) d whole) (λ e h. rw (part_value d n e h) (most e h))
