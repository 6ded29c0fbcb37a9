-- A small queue (examples/queue), worked out: which chances of first passage, means of moves and right sides of (19) it has.
use Rattle.std.specs.Prelude.{ℕ, zero, suc, List, [], ◌∷◌}
use Rattle.onecounter.specs.Moves.{down, level, up, Move, move}
use Rattle.onecounter.specs.Passage.{first_passage, mean_moves}
use Rattle.onecounter.specs.Equation.{Matrix, passage_side}

-- Arrivals in two phases: calm, 0, and busy, 1. In each, jobs are served (one down) and arrive (one up), and the phase may change (level).
abbrev pub queue : List Move
queue =
    move 0 0 down 32768 ∷ move 0 0 up 16384 ∷ move 0 1 level 16384
    ∷ move 1 0 level 8192 ∷ move 1 1 down 32768 ∷ move 1 1 up 24576 ∷ []

-- Of each pair of phases (0, 0), (0, 1), (1, 0), (1, 1) the chance of first passage within n moves.
abbrev pub passages : ℕ → List ℕ
passages n = first_passage queue n 0 0 ∷ first_passage queue n 0 1 ∷ first_passage queue n 1 0 ∷ first_passage queue n 1 1 ∷ []

abbrev pub passages_due : List (List ℕ)
passages_due =
    (0 ∷ 0 ∷ 0 ∷ 0 ∷ [])
    ∷ (32768 ∷ 0 ∷ 0 ∷ 32768 ∷ [])
    ∷ (2147483648 ∷ 536870912 ∷ 268435456 ∷ 2147483648 ∷ [])
    ∷ (162727720910848 ∷ 35184372088832 ∷ 17592186044416 ∷ 171523813933056 ∷ []) ∷ []

-- Of each phase the mean of moves counted to n.
abbrev pub means_of_moves : ℕ → List ℕ
means_of_moves n = mean_moves queue n 0 ∷ mean_moves queue n 1 ∷ []

abbrev pub means_due : List (List ℕ)
means_due =
    (0 ∷ 0 ∷ [])
    ∷ (65536 ∷ 65536 ∷ [])
    ∷ (6442450944 ∷ 6442450944 ∷ [])
    ∷ (527765581332480 ∷ 545357767376896 ∷ []) ∷ []

-- The right sides of (19) for x = 3/16, 5/16, 7/16, 11/16.
abbrev pub sixteenths : Matrix
sixteenths zero zero = 3
sixteenths zero (suc v) = 5
sixteenths (suc u) zero = 7
sixteenths (suc u) (suc v) = 11

abbrev pub sides : List ℕ
sides =
    passage_side queue 2 16 sixteenths 0 0 ∷ passage_side queue 2 16 sixteenths 0 1
    ∷ passage_side queue 2 16 sixteenths 1 0 ∷ passage_side queue 2 16 sixteenths 1 1 ∷ []

abbrev pub sides_due : List ℕ
sides_due = 10944512 ∷ 4030464 ∷ 2801664 ∷ 12877824 ∷ []
