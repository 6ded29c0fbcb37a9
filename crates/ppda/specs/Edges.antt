-- Rules that push one symbol and two, in another state and over another symbol (document 01, "Equations"), and uppers and mean steps for them, which
-- differ from entry to entry, dead ones apart, and from row to row.
use Rattle.std.specs.Prelude.{List, [], ◌∷◌}
use Rattle.ppda.specs.Rules.{Rule, rule, nothing, one, two}
use Rattle.ppda.specs.Equations.{Vector, RowVector, entries, rows}

-- Two states and three symbols: (0, 0) pushes 2 in state 1, and 1 over 2 there; (1, 0) pushes 1 in state 0.
abbrev pub pushing : List Rule
pushing =
    rule 0 0 0 nothing 20000 ∷ rule 0 0 1 (one 2) 15536 ∷ rule 0 0 1 (two 1 2) 30000
    ∷ rule 0 1 1 nothing 65536
    ∷ rule 0 2 0 nothing 65536
    ∷ rule 1 0 0 nothing 25536 ∷ rule 1 0 0 (one 1) 40000
    ∷ rule 1 1 0 nothing 10000 ∷ rule 1 1 1 nothing 55536
    ∷ rule 1 2 0 nothing 50000 ∷ rule 1 2 1 nothing 15536 ∷ []

abbrev pub uppers : Vector
uppers = entries 2 3 (919328 ∷ 163791 ∷ 0 ∷ 1100000 ∷ 1200000 ∷ 0 ∷ 408577 ∷ 671387 ∷ 170000 ∷ 900000 ∷ 810000 ∷ 260000 ∷ [])

abbrev pub steps : RowVector
steps = rows 3 (956 ∷ 300 ∷ 400 ∷ 440 ∷ 500 ∷ 700 ∷ [])
