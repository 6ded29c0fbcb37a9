-- An accepted model file in plain words: no reason of document 01's list 10 to 15 applies.
use Rattle.std.specs.Prelude.{ℕ, suc, ◌*◌, ◌≤◌, ◌<◌, List, [], ◌∷◌, ◌⊎◌, ◌≡◌, length}
use Rattle.ppda.specs.Units.{weight_unit}
use Rattle.ppda.specs.Rules.{over_row}
use Rattle.model.specs.Format.{record_bytes, most_records, most_states, most_symbols, most_pushes}
use Rattle.model.specs.Records.{records_of, states_of, symbols_of, state, symbol, target, pushes, top, under, weight, key}
use Rattle.model.specs.Rules.{rules_of}

-- Record i has every number in range (11, 13), and what it does not use is 0 (12).
pub record RecordRight (b : List ℕ) (i : ℕ) : Type 0 where
  pub state_range : state b i < most_states
  pub symbol_range : symbol b i < most_symbols
  pub target_range : target b i < most_states
  pub pushes_range : pushes b i ≤ most_pushes
  pub top_range : top b i < most_symbols
  pub under_range : under b i < most_symbols
  pub top_unused : pushes b i ≡ 0 → top b i ≡ 0
  pub under_unused : (pushes b i ≡ 2 → ⊥) → under b i ≡ 0
  pub weight_some : 1 ≤ weight b i
  pub weight_most : weight b i ≤ weight_unit

-- One list of numbers lies above another: it is greater where they first differ.
abbrev pub Above : List ℕ → List ℕ → Type 0
Above [] ys = ⊥
Above (a ∷ xs) [] = ⊥
Above (a ∷ xs) (b ∷ ys) = (b < a) ⊎ ((a ≡ b) × Above xs ys)

-- 1 to 1,024 whole records (10), each right.
pub record RecordsRight (b : List ℕ) : Type 0 where
  pub some : 1 ≤ records_of b
  pub most : records_of b ≤ most_records
  pub whole : length b ≡ record_bytes * records_of b
  pub right : (i : ℕ) → i < records_of b → RecordRight b i

-- Each record lies above the one before it (14).
abbrev pub Ascending : List ℕ → Type 0
Ascending b = (i : ℕ) → suc i < records_of b → Above (key b (suc i)) (key b i)

-- A model file: its records are right and ascend strictly (14), and each row's weights sum to 65,536 (15).
pub record ModelFile (b : List ℕ) : Type 0 where
  pub records : RecordsRight b
  pub ascending : Ascending b
  pub row : (p z : ℕ) → p < states_of b → z < symbols_of b → over_row (rules_of b) p z (λ r. 1) ≡ weight_unit
