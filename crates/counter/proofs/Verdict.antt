-- The verdict step by step, as the code finds it.
use Prim.Native.Nat.{ℕ, zero, suc, ◌+◌, ◌-◌, ◌<◌}
use native.Mathlib.Omega.{arith}
use mathlib.Core.Bool.{true, false}
use mathlib.Core.List.{List}
use mathlib.Core.Path.{◌≡◌, refl, sym, ◌∙◌}
use lib.IntN.{pos}
use lib.ListN.{length}
use borrow.Author.Tests.{eq-eqb, ne_eqb}
use Rattle.std.specs.Prelude.{Err}
use Rattle.outcome.specs.declared.Refusal.{Refusal}
use Rattle.outcome.specs.declared.Reason.TheVariants.{CounterLength, CounterSum}
use Rattle.outcome.specs.Tests.{first}
use Rattle.walks.specs.Lists.{each}
use Rattle.outcome.proofs.Tests.{first_fails, first_passes, first_after, first_refused, each_none, each_more, each_refused}
use Rattle.walks.proofs.Lists.{get_d_list_to}
use Rattle.ppda.specs.Units.{weight_unit}
use Rattle.wellformed.specs.Verdict.{above}
use Rattle.counter.specs.Records.{moves_in, move_key, states_in}
use Rattle.counter.specs.Verdict.{whole_moves, move_ascends, move_tests, state_sum, state_tests, counter_tests, counter_verdict}
use Rattle.counter.proofs.Accepted.{moves_right}
use Rattle.outcome.specs.Outcomes.{Outcome, Accepted, Refused}

module _ (c : List ℕ) where
  -- The first record has none before it, and any other is compared with the one before.
  pub ascends_first : (i : ℕ) → i ≡ 0 → move_ascends c i ≡ true
  unfolding move_ascends
  ascends_first i e = rw e

  pub ascends_after : (i : ℕ) → 0 < i → move_ascends c i ≡ above (move_key c (i - 1 + 1)) (move_key c (i - 1))
  unfolding move_ascends
  ascends_after zero h = absurd (omega arith)
  ascends_after (suc i) h =
      let e : suc i - 1 + 1 ≡ suc i = omega arith in
      let d : suc i - 1 ≡ i = omega arith in
      rw (e, d)

  -- The outcome of a state by its sum.
  pub sum_fails : (u : ℕ) → (state_sum c u ≡ weight_unit → ⊥) → first (state_tests c u) ≡ Refused CounterSum u (pos 0)
  unfolding state_tests first
  sum_fails u n = rw (ne_eqb _ _ n)

  pub sum_passes : (u : ℕ) → state_sum c u ≡ weight_unit → first (state_tests c u) ≡ Accepted
  unfolding state_tests first
  sum_passes u e = rw (eq-eqb _ _ e)

  -- The outcome of all records.
  abbrev pub moves_outcome : Outcome
  moves_outcome = first (each (moves_in c) (move_tests c))

  -- The verdict by its three parts, in their order: the length fails; it passes and a record fails; both pass.
  pub length_decides : whole_moves (length c) ≡ false → counter_verdict c ≡ Refused CounterLength 0 (pos 0)
  unfolding counter_verdict counter_tests
  length_decides e = first_fails _ _ (rw e)

  pub moves_refuse : whole_moves (length c) ≡ true → {why : Refusal} → moves_outcome ≡ Err why → counter_verdict c ≡ Err why
  unfolding counter_verdict counter_tests
  moves_refuse e f = first_passes _ _ (rw e) ∙ sym (first_refused _ _ _ (sym f) refl)

  pub sums_decide : whole_moves (length c) ≡ true → moves_outcome ≡ Accepted → counter_verdict c ≡ first (each (states_in c) (state_tests c))
  unfolding counter_verdict counter_tests
  sums_decide e a = first_passes _ _ (rw e) ∙ first_after (each (moves_in c) (move_tests c)) _ a

-- What a loop over tests goes by, and the loop over the sums.
pub ruleset turns = (each_none, each_more, each_refused)

pub ruleset sum_turns = (each_none, each_more, each_refused, sum_fails, sum_passes, get_d_list_to)

-- What the verdict goes by: its three parts, and that the sums are asked for right records alone.
pub ruleset parts = (length_decides, moves_refuse, sums_decide, moves_right)
