-- A model file made of rules: the records that say them, one after the other.
use Rattle.std.specs.Prelude.{ℕ, ◌<◌, ◌^◌, List, [], ◌∷◌, ◌++◌}
use Rattle.words.specs.Words.{four_bytes}
use Rattle.ppda.specs.Rules.{Push, nothing, one, two, pushed, Rule, Below}

-- The ten bytes of a record, of any numbers p, Z, q, L, Y, X and a weight.
abbrev pub model_record : ℕ → ℕ → ℕ → ℕ → ℕ → ℕ → ℕ → List ℕ
model_record p z q l y x k = p ∷ z ∷ q ∷ l ∷ y ∷ x ∷ four_bytes k

-- The record of a rule by what it pushes: what it does not use is 0.
abbrev pub push_record : ℕ → ℕ → ℕ → Push → ℕ → List ℕ
push_record p z q nothing k = model_record p z q 0 0 0 k
push_record p z q (one y) k = model_record p z q 1 y 0 k
push_record p z q (two y x) k = model_record p z q 2 y x k

-- The record of a rule.
abbrev pub rule_record : Rule → List ℕ
rule_record r = push_record r.state r.symbol r.target r.push r.weight

-- The file of a list of rules, one record a rule.
unfoldable pub made_model : List Rule → List ℕ
made_model [] = []
made_model (r ∷ m) = rule_record r ++ made_model m

-- The numbers of a rule fit the bytes of its record.
pub record RuleFits (r : Rule) : Type 0 where
  pub state : r.state < 256
  pub symbol : r.symbol < 256
  pub target : r.target < 256
  pub push : Below 256 (pushed r.push)
  pub weight : r.weight < 2 ^ 32
