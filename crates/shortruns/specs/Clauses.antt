-- Names for what the functions work out from the bytes of a model.
use Rattle.std.specs.Prelude.{ℕ, List, [], ◌∷◌}
use Rattle.walks.specs.Order.{by_row}
use Rattle.ppda.specs.Chances.{chance_from, chance}
use Rattle.model.specs.Records.{target, top, under}
use Rattle.model.specs.Rules.{rules_of}

-- The chance of the entry with exit q of row number k within n steps, in the model b with g symbols.
abbrev pub row_chance : List ℕ → ℕ → ℕ → ℕ → ℕ → ℕ
row_chance b g n k q = by_row g (chance (rules_of b) n) k q

-- The chance that the two symbols which record i pushes are gone within n steps, in state q.
abbrev pub pair_chance : List ℕ → ℕ → ℕ → ℕ → ℕ
pair_chance b n i q = chance_from (rules_of b) n (target b i) (top b i ∷ under b i ∷ []) q
