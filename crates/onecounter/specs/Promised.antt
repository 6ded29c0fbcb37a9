-- What mission point 3 promises of first passage to zero: the inequalities of crate ppda (`Bounds`), of a machine's runs instead of a model's.
use Rattle.std.specs.Prelude.{ℕ, ◌-◌, List}
use Rattle.walks.specs.Sums.{sum_to}
use Rattle.ppda.specs.Units.{chance_unit}
use Rattle.ppda.specs.Margin.{whole, kept}
use Rattle.ppda.specs.Bounds.{steps_of, AtMostUpper, AtLeastLower, AtMostMean, AtLeastTail}
use Rattle.onecounter.specs.Moves.{Move}
use Rattle.onecounter.specs.Passage.{first_passage, mean_moves}

-- Every chance of first reaching zero in v within n moves is at most the upper a.
abbrev pub PassageUpper : List Move → ℕ → ℕ → ℕ → Type 0
PassageUpper m u v a = (n : ℕ) → AtMostUpper n (first_passage m n u v) a

-- Every chance within 2^k − 1 moves is at least the lower l less (1 − margin)^k times the upper a, for 1 − margin = c/h.
abbrev pub PassageLowerBy : List Move → ℕ → ℕ → ℕ → ℕ → ℕ → ℕ → Type 0
PassageLowerBy m u v l a c h = (k : ℕ) → AtLeastLower k (first_passage m (steps_of k) u v) l a c h

-- The same by the margin b that is shown, and with one that is never 0 (`LowerHolds` of crate ppda).
pub record PassageLower (m : List Move) (u v l a b : ℕ) : Type 0 where
  pub as_shown : PassageLowerBy m u v l a (chance_unit - b) chance_unit
  pub above_zero : PassageLowerBy m u v l a (kept b) (whole b)

-- Every mean of moves counted to n is at most the figure r.
abbrev pub PassageMean : List Move → ℕ → ℕ → Type 0
PassageMean m u r = (n : ℕ) → AtMostMean n (mean_moves m n u) r

-- The chances of first reaching zero within n moves, in whichever of the s states, come to at least 1 − r/n (request A.7).
abbrev pub PassageTail : List Move → ℕ → ℕ → ℕ → Type 0
PassageTail m s u r = (n : ℕ) → AtLeastTail n (sum_to (λ v. first_passage m n u v) s) r
