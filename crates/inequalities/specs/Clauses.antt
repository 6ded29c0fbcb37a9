-- Names for the tests as the code walks through them: row by row, and by exits within a row. Row number k is (k / g, k % g).
use Rattle.std.specs.Prelude.{ℕ, ◌+◌, Bool, true, false, List, [], ◌∷◌}
use Rattle.outcome.specs.Tests.{Test}
use Rattle.walks.specs.Lists.{each}
use Rattle.ppda.specs.Units.{chance_unit, step_unit}
use Rattle.walks.specs.Order.{entries_in, row_at, entry_at, by_row, each_entry, each_row}
use Rattle.ppda.specs.Equations.{f, mean_side}
use Rattle.ppda.specs.Live.{is_live}
use Rattle.model.specs.declared.sizes.Sizes.{Sizes}
use Rattle.model.specs.Rules.{rules_of}
use Rattle.delivery.specs.Records.{value_at}
use Rattle.delivery.specs.Numbers.{uppers_of}
use Rattle.delivery.specs.Clauses.{rows_of_block}
use Rattle.live.specs.Clauses.{exit_marks}
use Rattle.inequalities.specs.declared.sides.Side.{Side}
use Rattle.inequalities.specs.declared.sides.Side.TheVariants.{Upper, StrictUpper, Lower}
use Rattle.inequalities.specs.Inequalities.{dead_test, upper_test, below_test, lower_test, mean_test}

-- Entry (p, z, q) of the block d with the rows' marks a, which starts at record `from`.
abbrev pub dead_at : ℕ → ℕ → List ℕ → List ℕ → ℕ → ℕ → ℕ → ℕ → List Test
dead_at s g a d from p z q = dead_test (is_live (exit_marks g a p z q)) (uppers_of s g d p z q) (from + entry_at s g p z q) ∷ []

-- The entries of row number k, and of all rows.
abbrev pub dead_row : Sizes → List ℕ → List ℕ → ℕ → ℕ → List Test
dead_row n a d from k = each n.states (by_row n.symbols (dead_at n.states n.symbols a d from) k)

abbrev pub dead_block : Sizes → List ℕ → List ℕ → ℕ → List Test
dead_block n a d from = each_entry n.states n.symbols (dead_at n.states n.symbols a d from)

-- Entry number e of the lowers of the block l beside the uppers of u.
abbrev pub below_at : List ℕ → List ℕ → ℕ → ℕ → List Test
below_at l u from e = below_test (value_at l e) (value_at u e) (from + e) ∷ []

-- The test of one entry that is live or not, with the number v, whose f is y, for each side of the equations.
abbrev pub side_test : Side → Bool → ℕ → ℕ → ℕ → Test
side_test Upper live v y i = upper_test false live v y i
side_test StrictUpper live v y i = upper_test true live v y i
side_test Lower live v y i = lower_test v y i

-- The record at which the block of a side starts.
abbrev pub side_from : Side → ℕ → ℕ → ℕ
side_from Upper s g = 0
side_from StrictUpper s g = 0
side_from Lower s g = entries_in s g

-- Entry (p, z, q) of the block d with the rows' marks a.
abbrev pub side_at : Side → List ℕ → ℕ → ℕ → List ℕ → List ℕ → ℕ → ℕ → ℕ → List Test
side_at k b s g a d p z q =
    side_test k (is_live (exit_marks g a p z q)) (uppers_of s g d p z q) (f (rules_of b) s chance_unit (uppers_of s g d) p z q)
    (side_from k s g + entry_at s g p z q)
    ∷ []

-- The entries of row number k, and of all rows.
abbrev pub side_row : Side → List ℕ → Sizes → List ℕ → List ℕ → ℕ → List Test
side_row side b n a d k = each n.states (by_row n.symbols (side_at side b n.states n.symbols a d) k)

abbrev pub side_block : Side → List ℕ → Sizes → List ℕ → List ℕ → List Test
side_block side b n a d = each_entry n.states n.symbols (side_at side b n.states n.symbols a d)

-- Row (p, z) of the mean steps of the block r beside the uppers of u, which starts at record `from`.
abbrev pub mean_at : List ℕ → ℕ → ℕ → List ℕ → List ℕ → ℕ → ℕ → ℕ → List Test
mean_at b s g u r from p z =
    mean_test (rows_of_block g r p z) (mean_side (rules_of b) s chance_unit step_unit (uppers_of s g u) (rows_of_block g r) p z) (from + row_at g p z)
    ∷ []

-- All rows.
abbrev pub mean_block : List ℕ → Sizes → List ℕ → List ℕ → ℕ → List Test
mean_block b n u r from = each_row n.states n.symbols (mean_at b n.states n.symbols u r from)
