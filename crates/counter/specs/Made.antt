-- The counter file made of moves, and the model file that a counter file makes, by the encoder of crate model.
use Rattle.std.specs.Prelude.{ℕ, List, [], ◌∷◌, ◌++◌}
use Rattle.words.specs.Words.{four_bytes}
use Rattle.model.specs.Made.{made_model}
use Rattle.onecounter.specs.Moves.{shift_number, Move}
use Rattle.onecounter.specs.Pushing.{rules_for}
use Rattle.counter.specs.Moves.{moves_of}

-- The eight bytes of a record, of any numbers u, v, d, a fourth byte and a weight.
abbrev pub counter_record : ℕ → ℕ → ℕ → ℕ → ℕ → List ℕ
counter_record u v d z k = u ∷ v ∷ d ∷ z ∷ four_bytes k

-- The counter file of a list of moves, one record a move, with a fourth byte of 0. An accepted file is the one made of its moves (`made_of_moves`): no byte of
-- it is left unread.
unfoldable pub made_counter : List Move → List ℕ
made_counter [] = []
made_counter (e ∷ m) = counter_record e.from e.to (shift_number e.shift) 0 e.weight ++ made_counter m

-- The model file: the records of the rules of its moves, in the same order.
unfoldable pub counter_model : List ℕ → List ℕ
counter_model c = made_model (rules_for (moves_of c))
