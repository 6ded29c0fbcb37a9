-- The machine that a counter file says, for the theory of crate onecounter.
use Rattle.std.specs.Prelude.{ℕ, zero, suc, List}
use Rattle.walks.specs.Lists.{list_to}
use Rattle.onecounter.specs.Moves.{Shift, down, level, up, Move, move}
use Rattle.counter.specs.Records.{moves_in, from_at, to_at, shift_at, weight_in}

-- What d does: 0 for one down, 1 for level, 2 for one up. (A greater d is refused by 47.)
abbrev pub shift_of : ℕ → Shift
shift_of zero = down
shift_of (suc zero) = level
shift_of (suc (suc d)) = up

-- The move of record i.
unfoldable pub move_of : List ℕ → ℕ → Move
move_of c i = move (from_at c i) (to_at c i) (shift_of (shift_at c i)) (weight_in c i)

-- The moves of the file, one a record.
unfoldable pub moves_of : List ℕ → List Move
moves_of c = list_to (move_of c) (moves_in c)
