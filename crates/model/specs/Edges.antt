-- Records by their ten bytes (document 01, "Models"): p, Z, q, L, Y, X, and the weight with the low byte first. No two bytes of the first record are
-- the same, so that no two of its fields can change places unseen.
use Rattle.std.specs.Prelude.{ℕ, List, [], ◌∷◌}
use Rattle.ppda.specs.Rules.{nothing, one, two, Rule, rule}

abbrev pub records_file : List ℕ
records_file =
    1 ∷ 5 ∷ 3 ∷ 2 ∷ 9 ∷ 7 ∷ 4 ∷ 6 ∷ 8 ∷ 10
    ∷ 2 ∷ 0 ∷ 4 ∷ 1 ∷ 6 ∷ 0 ∷ 0 ∷ 0 ∷ 1 ∷ 0
    ∷ 5 ∷ 4 ∷ 0 ∷ 0 ∷ 0 ∷ 0 ∷ 1 ∷ 0 ∷ 0 ∷ 0 ∷ []

-- The rules that they say: 9 over 7 is pushed, 6, and nothing.
abbrev pub rules_said : List Rule
rules_said = rule 1 5 3 (two 9 7) 168297988 ∷ rule 2 0 4 (one 6) 65536 ∷ rule 5 4 0 nothing 1 ∷ []
