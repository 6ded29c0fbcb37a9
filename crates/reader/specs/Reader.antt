-- What a reader of a printout of the files b and d learns: mission point 3, and the tail of request A.7, for the numbers on a line. A line is read as words and a word as a
-- number, by the definitions of crate text (`Reading`), which know nothing of how lines are made.
use Rattle.std.specs.Prelude.{ℕ, List, [], ◌∷◌, ◌≡◌}
use Rattle.walks.specs.Sums.{In}
use Rattle.ppda.specs.Bounds.{UpperHolds, LowerHolds, MeanHolds, TailHolds}
use Rattle.model.specs.Records.{states_of}
use Rattle.model.specs.Rules.{rules_of}
use Rattle.text.specs.Reading.{words_in, number_in}
use Rattle.lines.specs.Lines.{margin_word, chance_word, steps_word}
use Rattle.report.specs.Printed.{printed}

-- The words of a line of the printout.
abbrev pub LineIn : List ℕ → List ℕ → List (List ℕ) → Type 0
LineIn b d words = In words (words_in (printed b d))

-- A line `chance p z q l u ..`: the upper holds; and the lower, unless it is `-` (45), with the margin m of the line `margin m`.
pub record ChanceRead (b d p z q l u : List ℕ) : Type 0 where
  pub upper : UpperHolds (rules_of b) (number_in p) (number_in z) (number_in q) (number_in u)
  pub lower : (l ≡ 45 ∷ [] → ⊥) → (m : List ℕ) → LineIn b d (margin_word ∷ m ∷ [])
      → LowerHolds (rules_of b) (number_in p) (number_in z) (number_in q) (number_in l) (number_in u) (number_in m)

-- A line `steps p z r`: the mean steps hold, and so does their tail (request A.7).
pub record Reader (b d : List ℕ) : Type 0 where
  pub chances : (p z q l u gap : List ℕ) → LineIn b d (chance_word ∷ p ∷ z ∷ q ∷ l ∷ u ∷ gap ∷ []) → ChanceRead b d p z q l u
  pub steps : (p z r : List ℕ) → LineIn b d (steps_word ∷ p ∷ z ∷ r ∷ []) → MeanHolds (rules_of b) (number_in p) (number_in z) (number_in r)
  pub tails : (p z r : List ℕ) → LineIn b d (steps_word ∷ p ∷ z ∷ r ∷ []) → TailHolds (rules_of b) (states_of b) (number_in p) (number_in z) (number_in r)
