-- The tests of a delivery's numbers: document 01's 23 to 27, each over all entries or rows.
use Rattle.std.specs.Prelude.{ℕ, ◌+◌, ◌*◌, Bool, not, ◌&&◌, ◌||◌, List, [], ◌∷◌, eqb, leb, ltb}
use Rattle.std.proofs.Math.IntN.{sub_ℕ}
use Rattle.outcome.specs.declared.Reason.TheVariants.{DeadNotZero, UpperTooSmall, LowerAboveUpper, LowerTooLarge, MeanTooSmall}
use Rattle.outcome.specs.Tests.{Test, plain}
use Rattle.ppda.specs.Units.{chance_unit, step_unit, sum_unit}
use Rattle.ppda.specs.Rules.{Rule}
use Rattle.ppda.specs.Equations.{Vector, RowVector, f, mean_side}
use Rattle.ppda.specs.Live.{is_live}
use Rattle.walks.specs.Order.{entries_in, entry_at, row_at, each_entry, each_row}

-- At place i, an entry that is live or not has the value v: a dead entry is 0.
unfoldable pub dead_test : Bool → ℕ → ℕ → Test
dead_test live v i = plain (not live && not (eqb v 0)) DeadNotZero i

-- An upper a misses its inequality against y, both in 1/2^56: a ≥ y, and a > y where lowers stand and the entry is live.
abbrev pub upper_misses : Bool → Bool → ℕ → ℕ → Bool
upper_misses lowers live a y = ltb a y || (lowers && (live && leb a y))

-- At place i, an entry that is live or not has the upper u, and f(u) is y, in 1/2^56: u ≥ f(u), and u > f(u) where lowers stand and the
-- entry is live.
unfoldable pub upper_test : Bool → Bool → ℕ → ℕ → ℕ → Test
upper_test lowers live u y i =
    record {
      fails = upper_misses lowers live (u * sum_unit) y;
      reason = UpperTooSmall;
      place = i;
      shortfall = sub_ℕ (u * sum_unit) y;
    }

-- At place i, an entry has the lower l and the upper u: l ≤ u.
unfoldable pub below_test : ℕ → ℕ → ℕ → Test
below_test l u i = plain (ltb u l) LowerAboveUpper i

-- At place i, an entry has the lower l, and f(l) is y, in 1/2^56: l ≤ f(l).
unfoldable pub lower_test : ℕ → ℕ → ℕ → Test
lower_test l y i = record { fails = ltb y (l * sum_unit); reason = LowerTooLarge; place = i; shortfall = sub_ℕ y (l * sum_unit) }

-- At place i, a row has the mean steps r, and the right side of its inequality is y, in 1/2^44 of a step: r ≥ y.
unfoldable pub mean_test : ℕ → ℕ → ℕ → Test
mean_test r y i = record { fails = ltb (r * sum_unit) y; reason = MeanTooSmall; place = i; shortfall = sub_ℕ (r * sum_unit) y }

-- 23, for numbers v with the live marks a, of which the first stands at record `from`.
unfoldable pub dead_tests : ℕ → ℕ → Vector → Vector → ℕ → List Test
dead_tests s g a v from = each_entry s g (λ p z q. dead_test (is_live (a p z q)) (v p z q) (from + entry_at s g p z q) ∷ [])

-- 24, for uppers u with the live marks a, by whether lowers stand.
unfoldable pub upper_tests : List Rule → ℕ → ℕ → Bool → Vector → Vector → List Test
upper_tests m s g lowers a u =
    each_entry s g (λ p z q. upper_test lowers (is_live (a p z q)) (u p z q) (f m s chance_unit u p z q) (entry_at s g p z q) ∷ [])

-- 25, for lowers l and uppers u.
unfoldable pub below_tests : ℕ → ℕ → Vector → Vector → List Test
below_tests s g l u = each_entry s g (λ p z q. below_test (l p z q) (u p z q) (entries_in s g + entry_at s g p z q) ∷ [])

-- 26, for lowers l.
unfoldable pub lower_tests : List Rule → ℕ → ℕ → Vector → List Test
lower_tests m s g l =
    each_entry s g (λ p z q. lower_test (l p z q) (f m s chance_unit l p z q) (entries_in s g + entry_at s g p z q) ∷ [])

-- 27, for uppers u and mean steps r, of which the first stands at record `from`.
unfoldable pub mean_tests : List Rule → ℕ → ℕ → Vector → RowVector → ℕ → List Test
mean_tests m s g u r from =
    each_row s g (λ p z. mean_test (r p z) (mean_side m s chance_unit step_unit u r p z) (from + row_at g p z) ∷ [])
