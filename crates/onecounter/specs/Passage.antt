-- First passage to zero: sums over the runs of a machine, without any equation. Each is a whole number over 65536 ^ n.
use Rattle.std.specs.Prelude.{ℕ, zero, suc, ◌+◌, ◌-◌, ◌*◌, ◌^◌, List, eqb, length}
use Rattle.std.proofs.Math.Option.{Option, none, some}
use Rattle.walks.specs.Sums.{bit, sum, sum_to}
use Rattle.walks.specs.Lists.{lists}
use Rattle.ppda.specs.Units.{weight_unit}
use Rattle.onecounter.specs.Moves.{Move, CounterConfig, stands, after_moves, weigh_moves}

-- The sum, over all lists of j moves of the machine, of the product of the weights times what h makes of the list and of where it leads from state u at
-- the count c.
unfoldable pub over_moves : (List Move → Option CounterConfig → ℕ) → List Move → ℕ → ℕ → ℕ → ℕ
over_moves h m j u c = sum (λ l. weigh_moves l * h l (after_moves u c l)) (lists m j)

-- The same over all lists of at most n moves, over 65536 ^ n: a list of j moves counts 65536 ^ (n − j) times.
unfoldable pub over_moves_within : (List Move → Option CounterConfig → ℕ) → List Move → ℕ → ℕ → ℕ → ℕ
over_moves_within h m n u c = sum_to (λ j. weight_unit ^ (n - j) * over_moves h m j u c) (suc n)

-- 1 where the run has reached zero in state v, else 0.
abbrev pub zero_in : ℕ → Option CounterConfig → ℕ
zero_in v none = 0
zero_in v (some (stands u zero)) = bit (eqb u v)
zero_in v (some (stands u (suc c))) = 0

-- 1 where the run has reached zero, else 0.
abbrev pub at_zero : Option CounterConfig → ℕ
at_zero none = 0
at_zero (some (stands u zero)) = 1
at_zero (some (stands u (suc c))) = 0

-- 1 where the run has not reached zero, else 0.
abbrev pub above_zero : Option CounterConfig → ℕ
above_zero none = 0
above_zero (some (stands u zero)) = 0
above_zero (some (stands u (suc c))) = 1

-- The chance of first reaching zero in state v, from state u at the count 1, within n moves (request A.2; within any number of moves it is q*_uv of
-- document 000, the G matrix of a quasi-birth-death process).
unfoldable pub first_passage : List Move → ℕ → ℕ → ℕ → ℕ
first_passage m n u v = over_moves_within (λ l c. zero_in v c) m n u 1

-- The mean of moves from state u at the count 1 until zero, counted no further than n: over the runs that reach zero within n moves, and the runs of
-- exactly n moves that have not.
unfoldable pub mean_moves : List Move → ℕ → ℕ → ℕ
mean_moves m n u = over_moves_within (λ l c. length l * at_zero c) m n u 1 + over_moves (λ l c. length l * above_zero c) m n u 1
