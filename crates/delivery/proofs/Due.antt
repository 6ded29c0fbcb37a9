-- Which record is due where: what the two tests of a record say, every record of a file of a shape, and the numbers of these records, block by block.
use Prim.Native.Nat.{ℕ, ◌+◌, ◌-◌, ◌≤◌, ◌<◌}
use native.Mathlib.Omega.{arith}
use mathlib.Core.Bool.{Bool, true, false, false≢true}
use mathlib.Core.List.{List}
use mathlib.Core.Logic.{◌↔◌}
use mathlib.Core.Path.{◌≡◌, refl, subst}
use lib.Dec.{ltb}
use Rattle.walks.proofs.Exactly.{lt_exactly, not_lt_exactly, le_exactly, eq_exactly, both}
use Rattle.walks.specs.Order.{entries_in, rows_in, entry_at, row_at}
use Rattle.delivery.specs.declared.shape.Block.{Block}
use Rattle.delivery.specs.declared.shape.Block.TheVariants.{Uppers, Lowers, Means}
use Rattle.delivery.specs.declared.shape.Shape.{Shape}
use Rattle.delivery.specs.declared.shape.Shape.TheVariants.{U, UL, UR, ULR}
use Rattle.delivery.specs.Records.{kind_at, state_at, symbol_at, exit_at, value_at, kind_of, least_of, most_of, is_due, in_range}
use Rattle.delivery.specs.Shapes.{has_lowers, has_means, means_from, records_in}

pub due_exactly : (d : List ℕ) (i : ℕ) (k : Block) (p z q : ℕ) → (is_due d i k p z q ≡ true)
    ↔ ((kind_at d i ≡ kind_of k) × ((state_at d i ≡ p) × ((symbol_at d i ≡ z) × (exit_at d i ≡ q))))
unfolding is_due
due_exactly d i k p z q =
    both _ _ (eq_exactly (kind_at d i) (kind_of k))
    (both _ _ (eq_exactly (state_at d i) p) (both _ _ (eq_exactly (symbol_at d i) z) (eq_exactly (exit_at d i) q)))

pub range_exactly : (d : List ℕ) (i : ℕ) (k : Block) → (in_range d i k ≡ true) ↔ ((least_of k ≤ value_at d i) × (value_at d i ≤ most_of k))
unfolding in_range
range_exactly d i k = both _ _ (le_exactly (least_of k) (value_at d i)) (le_exactly (value_at d i) (most_of k))

-- P holds of every record of a file of shape h: of its number, its block, and the p, Z, q due there.
abbrev pub AtRecords : ℕ → ℕ → Shape → (ℕ → Block → ℕ → ℕ → ℕ → Type 0) → Type 0
AtRecords s g h P =
    ((p z q : ℕ) → p < s → z < g → q < s → P (entry_at s g p z q) Uppers p z q)
    × ((has_lowers h ≡ true → (p z q : ℕ) → p < s → z < g → q < s → P (entries_in s g + entry_at s g p z q) Lowers p z q)
    × (has_means h ≡ true → (p z : ℕ) → p < s → z < g → P (means_from s g h + row_at g p z) Means p z 0))

-- ---- the records of a shape, by their numbers

-- Numbers below n + m are those below n, and n more than those below m.
below_sum : (n m : ℕ) (P : ℕ → Type 0) → ((i : ℕ) → i < n → P i) → ((i : ℕ) → i < m → P (n + i)) → (i : ℕ) → i < n + m → P i
below_sum n m P first second i lt = go (ltb i n) refl
  where
    go : (t : Bool) → ltb i n ≡ t → P i
    go true e = first i ((lt_exactly i n).0 e)
    go false e =
        let above : n ≤ i = (not_lt_exactly i n).0 e in
        let back : n + (i - n) ≡ i = omega arith in
        subst P back (second (i - n) (omega arith))

-- A shape's records are those of its blocks.
module _ (s g : ℕ) where
  uppers_in : (h : Shape) → entries_in s g ≤ records_in s g h
  unfolding records_in means_from
  uppers_in U = omega arith
  uppers_in UL = omega arith
  uppers_in UR = omega arith
  uppers_in ULR = omega arith

  lowers_in : (h : Shape) → has_lowers h ≡ true → entries_in s g + entries_in s g ≤ records_in s g h
  unfolding records_in means_from
  lowers_in U e = absurd (false≢true e)
  lowers_in UL e = omega arith
  lowers_in UR e = absurd (false≢true e)
  lowers_in ULR e = omega arith

  means_in : (h : Shape) → has_means h ≡ true → means_from s g h + rows_in s g ≤ records_in s g h
  unfolding records_in
  means_in h e = rw e (omega arith)

  records_by_blocks : (P : ℕ → Type 0) (h : Shape) → ((i : ℕ) → i < entries_in s g → P i)
      → (has_lowers h ≡ true → (i : ℕ) → i < entries_in s g → P (entries_in s g + i))
      → (has_means h ≡ true → (i : ℕ) → i < rows_in s g → P (means_from s g h + i))
      → (i : ℕ) → i < records_in s g h → P i
  unfolding records_in means_from
  records_by_blocks P U uppers lowers means = uppers
  records_by_blocks P UL uppers lowers means = below_sum _ _ P uppers (lowers refl)
  records_by_blocks P UR uppers lowers means = below_sum _ _ P uppers (means refl)
  records_by_blocks P ULR uppers lowers means = below_sum _ _ P (below_sum _ _ P uppers (lowers refl)) (means refl)

  -- P holds of every record's number where it does of those of every block.
  pub each_record : (h : Shape) (P : ℕ → Type 0) → ((i : ℕ) → i < records_in s g h → P i)
      ↔ (((i : ℕ) → i < entries_in s g → P i)
      × ((has_lowers h ≡ true → (i : ℕ) → i < entries_in s g → P (entries_in s g + i))
      × (has_means h ≡ true → (i : ℕ) → i < rows_in s g → P (means_from s g h + i))))
  each_record h P = (
    λ all. (
      λ i lt. all i (omega (arith, uppers_in h)),
      (λ e i lt. all _ (omega (arith, lowers_in h e)), λ e i lt. all _ (omega (arith, means_in h e))),
    ),
    λ (uppers, (lowers, means)). records_by_blocks P h uppers lowers means,
  )
