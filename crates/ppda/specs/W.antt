-- Model W of document 01: document 001's Figure 1 with state p as 0, q as 1 and Z as 0; and the certificate that it prints.
use Rattle.std.specs.Prelude.{List, [], ◌∷◌}
use Rattle.ppda.specs.Rules.{Rule, rule, nothing, two}
use Rattle.ppda.specs.Equations.{Vector, RowVector, entries, rows}

-- Its four records.
abbrev pub w : List Rule
w = rule 0 0 0 nothing 32768 ∷ rule 0 0 0 (two 0 0) 16384 ∷ rule 0 0 1 nothing 16384 ∷ rule 1 0 1 nothing 65536 ∷ []

-- The uppers, the lowers and the mean steps of the printout.
abbrev pub w_uppers : Vector
w_uppers = entries 2 1 (655360 ∷ 524288 ∷ 0 ∷ 1179648 ∷ [])

abbrev pub w_lowers : Vector
w_lowers = entries 2 1 (524288 ∷ 393216 ∷ 0 ∷ 1048576 ∷ [])

abbrev pub w_means : RowVector
w_means = rows 1 (512 ∷ 256 ∷ [])
