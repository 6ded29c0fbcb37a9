-- Equation (19) of document 000, section 5, in whole numbers multiplied out.
use Rattle.std.specs.Prelude.{ℕ, ◌+◌, ◌*◌, ◌&&◌, List, eqb}
use Rattle.walks.specs.Sums.{bit, sum, sum_to}
use Rattle.onecounter.specs.Moves.{Shift, down, level, up, shift_number, Move}

-- A number x_uv for each pair of states.
abbrev pub Matrix : Type 0
Matrix = ℕ → ℕ → ℕ

-- The coefficient p_uv(j) of a shift j, over 65,536: the weights of the moves from u to v that shift so.
unfoldable pub coefficient : List Move → Shift → Matrix
coefficient m j u v = sum (λ e. bit (eqb e.from u && (eqb e.to v && eqb (shift_number e.shift) (shift_number j))) * e.weight) m

-- The right side of (19), for s states: p_uv(−1) + Σ_w p_uw(0) x_wv + Σ_y p_uy(+1) Σ_z x_yz x_zv. x counts 1/h, and this 1/(65536·h·h).
unfoldable pub passage_side : List Move → ℕ → ℕ → Matrix → Matrix
passage_side m s h x u v =
    coefficient m down u v * (h * h)
    + sum_to (λ w. coefficient m level u w * (h * x w v)) s
    + sum_to (λ y. coefficient m up u y * sum_to (λ z. x y z * x z v) s) s
