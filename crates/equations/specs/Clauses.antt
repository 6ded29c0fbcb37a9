-- Names for what the functions work out from the bytes of a model and of blocks of a delivery.
use Rattle.std.specs.Prelude.{ℕ, ◌*◌, ◌≤◌, ◌<◌, ◌≡◌, List}
use Rattle.walks.specs.Order.{by_row}
use Rattle.ppda.specs.Units.{chance_unit, step_unit}
use Rattle.ppda.specs.Rules.{Push, over_row}
use Rattle.ppda.specs.Equations.{through, f, steps_through, mean_side}
use Rattle.model.specs.declared.sizes.Sizes.{Sizes}
use Rattle.model.specs.Records.{records_of, target}
use Rattle.model.specs.Rules.{push_at, rules_of}
use Rattle.delivery.specs.Numbers.{uppers_of}
use Rattle.delivery.specs.Clauses.{rows_of_block}

-- One product of f at a rule that pushes two, for the numbers of the block d: v(r, y, t) × v(t, x, q).
abbrev pub product : ℕ → ℕ → List ℕ → ℕ → ℕ → ℕ → ℕ → ℕ → ℕ
product s g d r y x q t = uppers_of s g d r y t * uppers_of s g d t x q

-- What record i adds to f at an entry with exit q, before its weight.
abbrev pub through_of : List ℕ → ℕ → Sizes → List ℕ → ℕ → ℕ
through_of b i n d q = through n.states chance_unit (uppers_of n.states n.symbols d) (target b i) (push_at b i) q

-- f of the numbers of the block d, at the entry of row number k with exit q.
abbrev pub f_of : List ℕ → Sizes → List ℕ → ℕ → ℕ → ℕ
f_of b n d k q = by_row n.symbols (f (rules_of b) n.states chance_unit (uppers_of n.states n.symbols d)) k q

-- One product of the mean steps' right side: u(r, y, t) × e(t, x).
abbrev pub steps_product : ℕ → ℕ → List ℕ → List ℕ → ℕ → ℕ → ℕ → ℕ → ℕ
steps_product s g u e r y x t = uppers_of s g u r y t * rows_of_block g e t x

-- What record i adds to its row's right side, before its weight, for the uppers of the block u and the mean steps of the block e.
abbrev pub steps_added : List ℕ → ℕ → Sizes → List ℕ → List ℕ → ℕ
steps_added b i n u e =
    steps_through n.states chance_unit (uppers_of n.states n.symbols u) (rows_of_block n.symbols e) (target b i) (push_at b i)

-- The right side for row number k.
abbrev pub mean_side_of : List ℕ → Sizes → List ℕ → List ℕ → ℕ → ℕ
mean_side_of b n u e k =
    by_row n.symbols
    (mean_side (rules_of b) n.states chance_unit step_unit (uppers_of n.states n.symbols u) (rows_of_block n.symbols e)) k

-- What calls on the records give, by a record's target and what it pushes, and that it is at most `most`.
pub record Gives (post : ℕ → ℕ → Type 0) (b : List ℕ) (value : ℕ → Push → ℕ) (most : ℕ) : Type 0 where
  pub given : (i : ℕ) (r : ℕ) → i < records_of b → post i r → r ≡ value (target b i) (push_at b i)
  pub small : (q : ℕ) (x : Push) → value q x ≤ most

-- The sum over row number k of the weight times a value.
abbrev pub row_sum : List ℕ → Sizes → (ℕ → Push → ℕ) → ℕ → ℕ
row_sum b n value k = by_row n.symbols (λ p z. over_row (rules_of b) p z (λ r. value r.target r.push)) k
