-- The laws of a counter file's records: the states that they name, and the weights of a state as the theory sums them.
use Prim.Native.Nat.{ℕ, ◌+◌, ◌*◌, ◌≤◌, ◌<◌}
use native.Mathlib.Numerals.{add-one}
use native.Mathlib.Omega.{arith}
use mathlib.Core.List.{List}
use mathlib.Core.Path.{◌≡◌, sym}
use lib.Dec.{eqb}
use Rattle.walks.specs.Sums.{bit, sum, greatest_to}
use Rattle.walks.proofs.Sums.{greatest_le, greatest_most}
use Rattle.walks.proofs.Lists.{list_to_sum}
use Rattle.model.specs.Format.{most_states}
use Rattle.onecounter.specs.Moves.{Move}
use Rattle.counter.specs.Records.{moves_in, from_at, to_at, state_in, states_in}
use Rattle.counter.specs.Moves.{move_of, moves_of}
use Rattle.counter.specs.Verdict.{state_sum}
use Rattle.counter.specs.Accepted.{MovesRight}

module _ (c : List ℕ) where
  -- One more than the greatest state named.
  pub states_named : {k n : ℕ} → k ≡ greatest_to (state_in c) n → n ≡ moves_in c → k + 1 ≡ states_in c
  unfolding states_in
  states_named e m = rw (e, m, add-one)

  pub from_below : (i : ℕ) → i < moves_in c → from_at c i < states_in c
  unfolding states_in
  from_below i l = omega (arith, greatest_le (state_in c) (moves_in c) i l)

  pub to_below : (i : ℕ) → i < moves_in c → to_at c i < states_in c
  unfolding states_in
  to_below i l = omega (arith, greatest_le (state_in c) (moves_in c) i l)

  pub states_few : MovesRight c → states_in c ≤ most_states
  unfolding states_in
  states_few right =
      omega (arith, greatest_most (state_in c) (moves_in c) 7 (λ i l. omega (arith, (right.right i l).from_range, (right.right i l).to_range)))

  pub state_sum_is : (u : ℕ) → state_sum c u ≡ sum (λ e. bit (eqb e.from u) * e.weight) (moves_of c)
  unfolding state_sum moves_of move_of
  state_sum_is u = sym (list_to_sum (λ (e : Move). bit (eqb e.from u) * e.weight) (move_of c) (moves_in c))
