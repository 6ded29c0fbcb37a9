-- The queue of specs/Edges.antt by computation; and what the promises say of it in numbers, so that none can be weakened unseen.
use Prim.Native.Nat.{ℕ, ◌+◌, ◌-◌, ◌*◌, ◌^◌, ◌≤◌}
use native.Mathlib.Omega.{arith}
use mathlib.Core.Path.{◌≡◌, refl, subst, fun_ext}
use mathlib.Core.List.{List, [], ◌∷◌, flat_map}
use Rattle.walks.specs.Sums.{sum, sum_to}
use Rattle.walks.specs.Lists.{list_to, lists}
use Rattle.ppda.specs.Rules.{nothing, one, two, rule}
use Rattle.ppda.specs.Margin.{kept}
use Rattle.ppda.specs.Bounds.{steps_of, AtLeastTail}
use Rattle.ppda.proofs.TailEdges as TailEdges
use Rattle.onecounter.specs.Moves.{level, Move, move, after_moves, weigh_moves}
use Rattle.onecounter.specs.Passage.{over_moves, over_moves_within, first_passage, mean_moves}
use Rattle.onecounter.specs.Pushing.{rules_for}
use Rattle.onecounter.specs.Equation.{coefficient, passage_side}
use Rattle.onecounter.specs.Promised.{PassageUpper, PassageLower, PassageMean, PassageTail}
use Rattle.onecounter.specs.Edges.{queue, passages, passages_due, means_of_moves, means_due, sides, sides_due}
use Rattle.onecounter.proofs.Passage.{passage_is_chance}

-- A push of d symbols 0 for each shift d.
pub rules_due : rules_for queue
    ≡ rule 0 0 0 nothing 32768 ∷ rule 0 0 0 (two 0 0) 16384 ∷ rule 0 0 1 (one 0) 16384
    ∷ rule 1 0 0 (one 0) 8192 ∷ rule 1 0 1 nothing 32768 ∷ rule 1 0 1 (two 0 0) 24576 ∷ []
unfolding rules_for
rules_due = refl

pub passages_due_lem : list_to passages 4 ≡ passages_due
unfolding list_to first_passage over_moves_within over_moves sum_to sum lists flat_map after_moves weigh_moves
passages_due_lem = refl

pub means_due_lem : list_to means_of_moves 4 ≡ means_due
unfolding list_to mean_moves over_moves_within over_moves sum_to sum lists flat_map after_moves weigh_moves
means_due_lem = refl

pub sides_due_lem : sides ≡ sides_due
unfolding passage_side coefficient sum_to sum
sides_due_lem = refl

-- ---- the promises bite: within 3 moves the calm queue first reaches zero in the calm phase with the chance 0.578125, and its mean is 1.875 moves.

pub upper_bites : (a : ℕ) → PassageUpper queue 0 0 a → 606208 ≤ a
unfolding first_passage over_moves_within over_moves sum_to sum lists flat_map after_moves weigh_moves
upper_bites a h = omega (arith, h 3)

pub mean_bites : (r : ℕ) → PassageMean queue 0 r → 480 ≤ r
unfolding mean_moves over_moves_within over_moves sum_to sum lists flat_map after_moves weigh_moves
mean_bites r h = omega (arith, h 3)

-- 3/8 of the calm queue's runs have not reached zero within 2 moves, so that a tail by r holds there from 2 × 3/8 of a move on; and where the count never changes, no tail does.
pub tail_bites : (r : ℕ) → PassageTail queue 2 0 r → 192 ≤ r
unfolding first_passage over_moves_within over_moves sum_to sum lists flat_map after_moves weigh_moves
tail_bites r h = omega (arith, h 2)

abbrev pub forever : List Move
forever = move 0 0 level 65536 ∷ []

pub no_figure : (r : ℕ) → PassageTail forever 1 0 r → ⊥
unfolding rules_for
no_figure r h = TailEdges.no_figure r (λ n. subst (λ x. AtLeastTail n (sum_to x 1) r) (fun_ext (λ v. passage_is_chance forever n 0 v)) (h n))

-- With a margin of 1/2 and one round: l is at most 1/2 plus half of a. With a margin of 1 and two rounds: l is at most the chance within 3 moves.
pub lower_bites : (l a : ℕ) → PassageLower queue 0 0 l a 524288 → 2 * l ≤ 1048576 + a
unfolding steps_of first_passage over_moves_within over_moves sum_to sum lists flat_map after_moves weigh_moves
lower_bites l a h = omega (arith, h.as_shown 1)

pub lower_bites_later : (l a : ℕ) → PassageLower queue 0 0 l a 1048576 → l ≤ 606208
unfolding steps_of first_passage over_moves_within over_moves sum_to sum lists flat_map after_moves weigh_moves
lower_bites_later l a h = omega (arith, h.as_shown 2)

-- With a margin that is shown as 0, 1/2^57 of a is taken away.
pub lower_bites_without_margin : (l a : ℕ) → PassageLower queue 0 0 l a 0 → l * 2 ^ 57 ≤ 2 ^ 76 + (2 ^ 57 - 1) * a
unfolding steps_of kept first_passage over_moves_within over_moves sum_to sum lists flat_map after_moves weigh_moves
lower_bites_without_margin l a h = omega (arith, h.above_zero 1)
