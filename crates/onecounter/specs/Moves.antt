-- One-counter machines as lists of moves, and their runs (document 000, section 5: the transitions that are enabled at a counter above zero; "one down",
-- "level" and "one up" are request A.2's terms for its −1, 0 and 1).
use Rattle.std.specs.Prelude.{ℕ, zero, suc, ◌*◌, ◌<◌, cond, List, [], ◌∷◌, ◌≡◌, eqb}
use Rattle.std.proofs.Math.Option.{Option, none, some}
use Rattle.walks.specs.Sums.{bit, sum, In}
use Rattle.ppda.specs.Units.{weight_unit}

-- What a move does to the count.
pub data Shift : Type 0 where
  down : Shift
  level : Shift
  up : Shift

-- The number d of request A.2 for it: 0 for one down, 1 for level, 2 for one up.
abbrev pub shift_number : Shift → ℕ
shift_number down = 0
shift_number level = 1
shift_number up = 2

-- In the state `from`, at a count above zero, with a chance of weight/65,536: go to the state `to` and shift the count.
pub record Move : Type 0 where
  pub from : ℕ
  pub to : ℕ
  pub shift : Shift
  pub weight : ℕ

abbrev pub move : ℕ → ℕ → Shift → ℕ → Move
move u v d k = record { from = u; to = v; shift = d; weight = k }

-- The count after a shift from the count n + 1.
abbrev pub shifted : Shift → ℕ → ℕ
shifted down n = n
shifted level n = suc n
shifted up n = suc (suc n)

-- The list of moves is a machine with s states: each is from and to one of them with a chance that is not 0, and the weights of each state sum to 65,536.
pub record IsMachine (s : ℕ) (m : List Move) : Type 0 where
  pub from_state : (e : Move) → In e m → e.from < s
  pub to_state : (e : Move) → In e m → e.to < s
  pub some_weight : (e : Move) → In e m → 0 < e.weight
  pub state_sum : (u : ℕ) → u < s → sum (λ e. bit (eqb e.from u) * e.weight) m ≡ weight_unit

-- ---- runs

-- A configuration of a machine: a state and a count.
pub data CounterConfig : Type 0 where
  stands : (state count : ℕ) → CounterConfig

-- The configuration after a list of moves from state u at the count n. There is none where a move is not for the state at hand, or where the count is
-- zero and the list goes on: a run stops when the count is first zero.
unfoldable pub after_moves : ℕ → ℕ → List Move → Option CounterConfig
after_moves u n [] = some (stands u n)
after_moves u zero (e ∷ l) = none
after_moves u (suc n) (e ∷ l) = cond (eqb e.from u) (after_moves e.to (shifted e.shift n) l) none

-- The product of a list's weights: over 65536 ^ j, the product of the chances of its j moves.
unfoldable pub weigh_moves : List Move → ℕ
weigh_moves [] = 1
weigh_moves (e ∷ l) = e.weight * weigh_moves l
