-- Every test of numbers after that of dead uppers, by the rest of the file: its part from record V on, which the lower and mean-step checks
-- take; and the parts in which the code takes them. `uppers_of` reads the first V values of any bytes, so of the rest it reads the lowers.
use Rattle.std.specs.Prelude.{ℕ, ◌*◌, Bool, true, cond, List, ◌++◌, ◌≡◌, take, drop, Some}
use Rattle.outcome.specs.Tests.{Test, first}
use Rattle.ppda.specs.Units.{most_chance, most_mean}
use Rattle.walks.specs.Order.{entries_in, rows_in}
use Rattle.ppda.specs.Equations.{Vector}
use Rattle.model.specs.declared.sizes.Sizes.{Sizes}
use Rattle.model.specs.Rules.{rules_of}
use Rattle.model.specs.Clauses.{Sized}
use Rattle.delivery.specs.declared.shape.Shape.{Shape}
use Rattle.delivery.specs.Format.{record_bytes}
use Rattle.delivery.specs.Shapes.{has_lowers, has_means, means_from, shape_of}
use Rattle.delivery.specs.Numbers.{uppers_of}
use Rattle.delivery.specs.Clauses.{rows_of_block, Within, Chances}
use Rattle.layout.specs.Layout.{only_if, layout_tests}
use Rattle.rows.specs.Clauses.{Indexed}
use Rattle.live.specs.Clauses.{exit_marks}
use Rattle.inequalities.specs.Inequalities.{dead_tests, upper_tests, below_tests, lower_tests, mean_tests}
use Rattle.verdict.specs.Verdict.{verdict}
use Rattle.outcome.specs.Outcomes.{Accepted}

-- ---- what the functions ask

-- A file of shape h for an accepted model, with its sizes.
pub record SizedFile (b : List ℕ) (n : Sizes) (h : Shape) (d : List ℕ) : Type 0 where
  pub sized : Sized b n.states n.symbols
  pub of : shape_of n.states n.symbols d ≡ Some h

-- The same with a right layout.
pub record LaidOut (b : List ℕ) (n : Sizes) (h : Shape) (d : List ℕ) : Type 0 where
  pub file : SizedFile b n h d
  pub layout : first (layout_tests n.states n.symbols h d) ≡ Accepted

-- The same of a delivery that is accepted.
pub record AcceptedFile (b : List ℕ) (n : Sizes) (h : Shape) (d : List ℕ) : Type 0 where
  pub file : SizedFile b n h d
  pub accepted : verdict b d ≡ Accepted

-- The block of mean steps in the rest of a file: after the lowers, if there are any.
unfoldable pub means_block : ℕ → ℕ → Shape → List ℕ → List ℕ
means_block s g h rest = cond (has_lowers h) (drop (record_bytes * entries_in s g) rest) rest

-- The rest of a file starts with its lowers, in range, where they stand.
abbrev pub LowersRead : ℕ → ℕ → Bool → List ℕ → Type 0
LowersRead s g t rest = t ≡ true → Within (take (record_bytes * entries_in s g) rest) (entries_in s g) most_chance

-- The rest of a file of shape h has its lowers and its mean steps, each in range.
pub record RestRead (s g : ℕ) (h : Shape) (rest : List ℕ) : Type 0 where
  pub lowers : LowersRead s g (has_lowers h) rest
  pub means : has_means h ≡ true → Within (means_block s g h rest) (rows_in s g) most_mean

-- A model with its rows, uppers in range, and the rest of a file of shape h.
pub record RestOf (b : List ℕ) (n : Sizes) (starts : List ℕ) (h : Shape) (u rest : List ℕ) : Type 0 where
  pub indexed : Indexed b n starts
  pub uppers : Chances n u
  pub read : RestRead n.states n.symbols h rest

-- ---- the tests by the rest of the file

-- 27.
unfoldable pub rest_means : List ℕ → ℕ → ℕ → Shape → Vector → List ℕ → List Test
rest_means b s g h u rest =
    only_if (has_means h) (mean_tests (rules_of b) s g u (rows_of_block g (means_block s g h rest)) (means_from s g h))

-- 23 in the lowers, 24, 25, 26 and 27, for the live marks a and the uppers u.
unfoldable pub rest_tests : List ℕ → ℕ → ℕ → Shape → Vector → Vector → List ℕ → List Test
rest_tests b s g h a u rest =
    only_if (has_lowers h) (dead_tests s g a (uppers_of s g rest) (entries_in s g))
    ++ (upper_tests (rules_of b) s g (has_lowers h) a u
    ++ (only_if (has_lowers h) (below_tests s g (uppers_of s g rest) u)
    ++ (only_if (has_lowers h) (lower_tests (rules_of b) s g (uppers_of s g rest))
    ++ rest_means b s g h u rest)))

-- ---- the parts in which the code takes the tests: t is whether lowers stand, a lists the rows' live marks and u starts with the uppers

-- 23 in the lowers.
abbrev pub dead_part : ℕ → ℕ → Bool → List ℕ → List ℕ → List Test
dead_part s g t a rest = only_if t (dead_tests s g (exit_marks g a) (uppers_of s g rest) (entries_in s g))

-- 24.
abbrev pub upper_part : List ℕ → ℕ → ℕ → Bool → List ℕ → List ℕ → List Test
upper_part b s g t a u = upper_tests (rules_of b) s g t (exit_marks g a) (uppers_of s g u)

-- 25 and 26.
abbrev pub lower_part : List ℕ → ℕ → ℕ → Bool → List ℕ → List ℕ → List Test
lower_part b s g t u rest =
    only_if t (below_tests s g (uppers_of s g rest) (uppers_of s g u)) ++ only_if t (lower_tests (rules_of b) s g (uppers_of s g rest))

-- 27.
abbrev pub mean_part : List ℕ → ℕ → ℕ → Shape → List ℕ → List ℕ → List Test
mean_part b s g h u rest = rest_means b s g h (uppers_of s g u) rest

-- All of them.
abbrev pub rest_part : List ℕ → ℕ → ℕ → Shape → List ℕ → List ℕ → List ℕ → List Test
rest_part b s g h a u rest = rest_tests b s g h (exit_marks g a) (uppers_of s g u) rest
