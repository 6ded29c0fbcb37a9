-- A machine's rules are a model with one symbol: each move is a rule of the one row of its state.
use Prim.Native.Nat.{ℕ, ◌*◌, ◌<◌}
use native.Mathlib.Nat.{mul-one}
use native.Mathlib.Omega.{arith}
use mathlib.Core.Path.{◌≡◌, sym, ap, subst, ◌∙◌}
use mathlib.Core.Bool.{and-true}
use mathlib.Core.List.{List}
use lib.Dec.{eqb, lit<}
use Rattle.walks.specs.Sums.{bit, sum, In}
use Rattle.walks.proofs.Sums.{sum_cong, sum_map}
use Rattle.walks.proofs.Lists.{of_in_map}
use Rattle.ppda.specs.Units.{weight_unit}
use Rattle.ppda.specs.Rules.{pushed, Rule, fits, over_row, Below, IsRule, IsModel}
use Rattle.onecounter.specs.Moves.{Shift, down, level, up, Move, IsMachine}
use Rattle.onecounter.specs.Pushing.{push_for, rule_for, rules_for}

-- A move's rule is for the move's state and the one symbol.
pub fits_move : (e : Move) (u : ℕ) → fits (rule_for e) u 0 ≡ eqb e.from u
unfolding fits
fits_move e u = and-true (eqb e.from u)

-- A sum over the rules of a machine's row, over its moves.
pub row_of_moves : (m : List Move) (u : ℕ) (h : Rule → ℕ)
    → over_row (rules_for m) u 0 h ≡ sum (λ e. bit (eqb e.from u) * (e.weight * h (rule_for e))) m
unfolding over_row rules_for
row_of_moves m u h = sum_map _ rule_for m ∙ sum_cong _ _ m (λ e i. ap (λ b. bit b * (e.weight * h (rule_for e))) (fits_move e u))

pushed_below : (d : Shift) → Below 1 (pushed (push_for d))
pushed_below down = tt
pushed_below level = (lit< tt, tt)
pushed_below up = (lit< tt, (lit< tt, tt))

pub machine_model : {s : ℕ} {m : List Move} → IsMachine s m → IsModel s 1 (rules_for m)
unfolding rules_for
machine_model {s} {m} k = record { rule = is_rule; row = row_sum_lem }
  where
    of_move : (e : Move) → In e m → IsRule s 1 (rule_for e)
    of_move e i =
        record { state = k.from_state e i; symbol = lit< tt; target = k.to_state e i; push = pushed_below e.shift; weight = k.some_weight e i }

    is_rule : (r : Rule) → In r (rules_for m) → IsRule s 1 r
    is_rule r i = let t = of_in_map rule_for r m i in subst (IsRule s 1) (sym t.2) (of_move t.0 t.1)

    row_sum_lem : (p z : ℕ) → p < s → z < 1 → over_row (rules_for m) p z (λ r. 1) ≡ weight_unit
    row_sum_lem p z hp hz =
        let e : z ≡ 0 = omega arith in
        rw e (row_of_moves m p (λ r. 1) ∙ sum_cong _ _ m (λ e i. ap (λ n. bit (eqb e.from p) * n) (mul-one e.weight)) ∙ k.state_sum p hp)
