-- The rules that a model file says, for the theory of crate ppda.
use Rattle.std.specs.Prelude.{ℕ, zero, suc, ◌*◌, List, eqb}
use Rattle.walks.specs.Sums.{bit, sum_to}
use Rattle.walks.specs.Order.{row_at}
use Rattle.ppda.specs.Rules.{Push, nothing, one, two, Rule, rule}
use Rattle.model.specs.Records.{records_of, state, symbol, target, pushes, top, under, weight}
use Rattle.walks.specs.Lists.{list_to}

-- What L, Y and X push, and what record i does.
abbrev pub push_of : ℕ → ℕ → ℕ → Push
push_of zero y x = nothing
push_of (suc zero) y x = one y
push_of (suc (suc l)) y x = two y x

abbrev pub push_at : List ℕ → ℕ → Push
push_at b i = push_of (pushes b i) (top b i) (under b i)

-- The rule of record i.
unfoldable pub rule_of : List ℕ → ℕ → Rule
rule_of b i = rule (state b i) (symbol b i) (target b i) (push_at b i) (weight b i)

-- The rules of the file, one a record.
unfoldable pub rules_of : List ℕ → List Rule
rules_of b = list_to (rule_of b) (records_of b)

-- The number p × g + Z of record i's row, where the file has g symbols.
unfoldable pub row_of : List ℕ → ℕ → ℕ → ℕ
row_of b g i = row_at g (state b i) (symbol b i)

-- The sum of the weights of row number k.
unfoldable pub row_sum : List ℕ → ℕ → ℕ → ℕ
row_sum b g k = sum_to (λ i. bit (eqb (row_of b g i) k) * weight b i) (records_of b)
