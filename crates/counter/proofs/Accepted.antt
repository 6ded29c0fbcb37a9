-- The verdict accepts exactly the counter files.
use Prim.Native.Nat.{ℕ, zero, suc, ◌%◌, ◌≤◌, ◌<◌}
use native.Mathlib.Omega.{arith}
use mathlib.Core.Bool.{true}
use mathlib.Core.List.{List}
use mathlib.Core.Logic.Iff
use mathlib.Core.Logic.{◌↔◌}
use mathlib.Core.Path.{◌≡◌, refl, sym, ◌∙◌}
use lib.Dec.{eqb, leb, ltb}
use lib.ListN.{length}
use borrow.Author.Tests.{eqb-true, not-false, eq-eqb}
use Rattle.outcome.specs.Tests.{first, Passed}
use Rattle.walks.specs.Lists.{each}
use Rattle.walks.proofs.Exactly.{lt_exactly, le_exactly, eq_exactly, both, not_exactly}
use Rattle.walks.proofs.Lists.{in_list_to}
use Rattle.outcome.proofs.Tests.{accepted_exactly, passed_append, passed_each}
use Rattle.ppda.specs.Units.{weight_unit}
use Rattle.model.specs.Format.{most_states}
use Rattle.wellformed.proofs.Accepted.{above_exactly}
use Rattle.onecounter.specs.Moves.{IsMachine}
use Rattle.counter.specs.Format.{record_bytes, most_shift, most_bytes}
use Rattle.counter.specs.Records.{moves_in, from_at, to_at, shift_at, zero_at, weight_in, move_key, states_in}
use Rattle.counter.specs.Moves.{move_of, moves_of}
use Rattle.counter.specs.Verdict.{whole_moves, move_in_range, move_ascends, move_tests, state_sum, state_tests, counter_tests, counter_verdict}
use Rattle.counter.specs.Accepted.{MoveRight, MovesRight, CounterFile}
use Rattle.counter.proofs.Records.{from_below, to_below, state_sum_is}
use Rattle.outcome.specs.Outcomes.{Accepted}

-- ---- tests and what they say

whole_exactly : (n : ℕ) → (whole_moves n ≡ true) ↔ ((0 < n) × ((n % record_bytes ≡ 0) × (n ≤ most_bytes)))
unfolding whole_moves
whole_exactly n = both (ltb 0 n) _ (lt_exactly 0 n) (both (eqb (n % record_bytes) 0) _ (eq_exactly (n % record_bytes) 0) (le_exactly n most_bytes))

range_exactly : (c : List ℕ) (i : ℕ) → (move_in_range c i ≡ true)
    ↔ ((from_at c i < most_states) × ((to_at c i < most_states) × ((shift_at c i ≤ most_shift) × ((zero_at c i ≡ 0) × ((0 < weight_in c i) × (weight_in c i ≤ weight_unit))))))
unfolding move_in_range
range_exactly c i =
    both (ltb (from_at c i) most_states) _ (lt_exactly (from_at c i) most_states)
    (both (ltb (to_at c i) most_states) _ (lt_exactly (to_at c i) most_states)
    (both (leb (shift_at c i) most_shift) _ (le_exactly (shift_at c i) most_shift)
    (both (eqb (zero_at c i) 0) _ (eq_exactly (zero_at c i) 0)
    (both (ltb 0 (weight_in c i)) _ (lt_exactly 0 (weight_in c i)) (le_exactly (weight_in c i) weight_unit)))))

move_exactly : (c : List ℕ) (i : ℕ) → Passed (move_tests c i) ↔ (MoveRight c i × (move_ascends c i ≡ true))
unfolding move_tests
move_exactly c i = (
  λ h. let (range, ascends) = (both (move_in_range c i) (move_ascends c i) (range_exactly c i) (λ e. e, λ e. e)).0 (not-false _ h.0) in (
    record {
      from_range = range.0;
      to_range = range.1.0;
      shift_range = range.1.1.0;
      fourth_zero = range.1.1.1.0;
      weight_some = range.1.1.1.1.0;
      weight_most = range.1.1.1.1.1;
    },
    ascends,
  ),
  λ h. let r = h.0 in (
    (not_exactly _).1 ((both (move_in_range c i) (move_ascends c i) (range_exactly c i) (λ e. e, λ e. e)).1 (
      (r.from_range, (r.to_range, (r.shift_range, (r.fourth_zero, (r.weight_some, r.weight_most))))),
      h.1,
    )),
    tt,
  ),
)

sum_exactly : (c : List ℕ) (u : ℕ) → Passed (state_tests c u) ↔ (state_sum c u ≡ weight_unit)
unfolding state_tests
sum_exactly c u = (λ h. eqb-true _ _ (not-false _ h.0), λ e. ((not_exactly _).1 (eq-eqb _ _ e), tt))

-- ---- the parts of a file

-- Where the length and every record have passed, the records are right.
pub moves_right : (c : List ℕ) → whole_moves (length c) ≡ true → first (each (moves_in c) (move_tests c)) ≡ Accepted → MovesRight c
unfolding moves_in move_ascends
moves_right c e f =
    let n = (whole_exactly (length c)).0 e in
    let records = (passed_each (moves_in c) (move_tests c)).0 ((accepted_exactly (each (moves_in c) (move_tests c))).0 f) in
    record {
      some = omega arith;
      most = omega arith;
      whole = omega arith;
      right = λ i l. ((move_exactly c i).0 (records i l)).0;
      ascending = λ i l. (above_exactly (move_key c (suc i)) (move_key c i)).0 ((move_exactly c (suc i)).0 (records (suc i) l)).1;
    }

-- And the sums make them a machine.
machine_of : (c : List ℕ) → MovesRight c → ((u : ℕ) → u < states_in c → state_sum c u ≡ weight_unit) → IsMachine (states_in c) (moves_of c)
unfolding moves_of move_of
machine_of c right sums =
    record {
      from_state = λ e h. let (i, l, q) = in_list_to (move_of c) (moves_in c) e h in rw q (from_below c i l);
      to_state = λ e h. let (i, l, q) = in_list_to (move_of c) (moves_in c) e h in rw q (to_below c i l);
      some_weight = λ e h. let (i, l, q) = in_list_to (move_of c) (moves_in c) e h in rw q (right.right i l).weight_some;
      state_sum = λ u l. sym (state_sum_is c u) ∙ sums u l;
    }

file_of_passed : (c : List ℕ) → Passed (counter_tests c) → CounterFile c
unfolding counter_tests
file_of_passed c h =
    let parts = (passed_append (each (moves_in c) (move_tests c)) (each (states_in c) (state_tests c))).0 h.1 in
    let records = moves_right c (not-false _ h.0) ((accepted_exactly (each (moves_in c) (move_tests c))).1 parts.0) in
    let sums = (passed_each (states_in c) (state_tests c)).0 parts.1 in
    record { records = records; machine = machine_of c records (λ u l. (sum_exactly c u).0 (sums u l)) }

ascends_of_file : (c : List ℕ) → MovesRight c → (i : ℕ) → i < moves_in c → move_ascends c i ≡ true
unfolding move_ascends
ascends_of_file c m zero l = refl
ascends_of_file c m (suc i) l = (above_exactly (move_key c (suc i)) (move_key c i)).1 (m.ascending i l)

passed_of_file : (c : List ℕ) → CounterFile c → Passed (counter_tests c)
unfolding counter_tests moves_in
passed_of_file c file =
    let m = file.records in (
      (not_exactly _).1 ((whole_exactly (length c)).1 (omega (arith, m.some), (omega (arith, m.whole), omega (arith, m.whole, m.most)))),
      (passed_append (each (moves_in c) (move_tests c)) (each (states_in c) (state_tests c))).1 (
        (passed_each (moves_in c) (move_tests c)).1 (λ i l. (move_exactly c i).1 (m.right i l, ascends_of_file c m i l)),
        (passed_each (states_in c) (state_tests c)).1 (λ u l. (sum_exactly c u).1 (state_sum_is c u ∙ file.machine.state_sum u l)),
      ),
    )

pub counter_accepted : (c : List ℕ) → (counter_verdict c ≡ Accepted) ↔ CounterFile c
unfolding counter_verdict
counter_accepted c = Iff.trans (accepted_exactly (counter_tests c)) (file_of_passed c, passed_of_file c)
