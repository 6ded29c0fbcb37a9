-- First passage of a machine is the return chance of its model, and the mean of moves the mean of steps: a machine's runs are its model's, one to one.
use Prim.Native.Nat.{ℕ, zero, suc, ◌+◌, ◌-◌, ◌*◌, ◌^◌}
use mathlib.Core.Path.{◌≡◌, refl, sym, ap, ap₂, ◌∙◌}
use mathlib.Core.Bool.{Bool, true, false, cond}
use mathlib.Core.List.{List, [], ◌∷◌, ◌++◌, map}
use mathlib.Core.Option
use mathlib.Core.Option.{Option, none, some}
use lib.Dec.{eqb}
use lib.ListN.{replicate, length-map}
use Rattle.walks.specs.Lists.{lists}
use Rattle.walks.proofs.Sums.{sum_cong, sum_to_cong}
use Rattle.walks.proofs.Lists.{sum_lists_map}
use Rattle.ppda.specs.Units.{weight_unit}
use Rattle.ppda.specs.Rules.{pushed, Rule}
use Rattle.ppda.specs.Runs.{Config, at, after, weigh, over_runs, over_runs_within}
use Rattle.ppda.specs.Chances.{returned_in, returned, under_way, chance_from, chance, counted, mean}
use Rattle.onecounter.specs.Moves.{Shift, down, level, up, shifted, Move, CounterConfig, stands, after_moves, weigh_moves}
use Rattle.onecounter.specs.Passage.{over_moves, over_moves_within, zero_in, at_zero, above_zero, first_passage, mean_moves}
use Rattle.onecounter.specs.Pushing.{push_for, rule_for, rules_for}
use Rattle.onecounter.proofs.Models.{fits_move}

-- A count as a stack, and a machine's configuration as the model's.
abbrev zeros : ℕ → List ℕ
zeros c = replicate c 0

abbrev stacked : CounterConfig → Config
stacked (stands u c) = at u (zeros c)

-- ---- one run

pushed_zeros : (d : Shift) (c : ℕ) → pushed (push_for d) ++ zeros c ≡ zeros (shifted d c)
pushed_zeros down c = refl
pushed_zeros level c = refl
pushed_zeros up c = refl

-- A list of moves leads where the list of their rules leads.
after_moves_lem : (u c : ℕ) (l : List Move) → after u (zeros c) (map rule_for l) ≡ Option.map stacked (after_moves u c l)
unfolding after after_moves
after_moves_lem u c [] = refl
after_moves_lem u zero (e ∷ l) = refl
after_moves_lem u (suc c) (e ∷ l) =
    ap₂ (λ b σ. cond b (after e.to σ (map rule_for l)) none) (fits_move e u) (pushed_zeros e.shift c)
    ∙ ap (λ x. cond (eqb e.from u) x none) (after_moves_lem e.to (shifted e.shift c) l)
    ∙ stacked_if (eqb e.from u) (after_moves e.to (shifted e.shift c) l)
  where
    stacked_if : (b : Bool) (x : Option CounterConfig) → cond b (Option.map stacked x) none ≡ Option.map stacked (cond b x none)
    stacked_if true x = refl
    stacked_if false x = refl

weigh_moves_lem : (l : List Move) → weigh (map rule_for l) ≡ weigh_moves l
unfolding weigh weigh_moves
weigh_moves_lem [] = refl
weigh_moves_lem (e ∷ l) = ap (λ n. e.weight * n) (weigh_moves_lem l)

-- ---- sums over runs, of h for rules and of k for moves, which count the same

module _ (h : List Rule → Option Config → ℕ) (k : List Move → Option CounterConfig → ℕ)
    (same : (l : List Move) (c : Option CounterConfig) → h (map rule_for l) (Option.map stacked c) ≡ k l c) (m : List Move) (u c : ℕ) where
  over_moves_lem : (j : ℕ) → over_runs h (rules_for m) j u (zeros c) ≡ over_moves k m j u c
  unfolding over_runs over_moves rules_for
  over_moves_lem j =
      sum_lists_map rule_for m j _
      ∙ sum_cong _ _ (lists m j) (λ l i. ap₂ ◌*◌ (weigh_moves_lem l) (ap (h (map rule_for l)) (after_moves_lem u c l) ∙ same l (after_moves u c l)))

  within_moves : (n : ℕ) → over_runs_within h (rules_for m) n u (zeros c) ≡ over_moves_within k m n u c
  unfolding over_runs_within over_moves_within
  within_moves n = sum_to_cong _ _ (suc n) (λ j b. ap (λ x. weight_unit ^ (n - j) * x) (over_moves_lem j))

-- ---- what they count

empty_at_zero : (v : ℕ) (c : Option CounterConfig) → returned_in v (Option.map stacked c) ≡ zero_in v c
empty_at_zero v none = refl
empty_at_zero v (some (stands u zero)) = refl
empty_at_zero v (some (stands u (suc c))) = refl

returned_at_zero : (c : Option CounterConfig) → returned (Option.map stacked c) ≡ at_zero c
returned_at_zero none = refl
returned_at_zero (some (stands u zero)) = refl
returned_at_zero (some (stands u (suc c))) = refl

under_way_above : (c : Option CounterConfig) → under_way (Option.map stacked c) ≡ above_zero c
under_way_above none = refl
under_way_above (some (stands u zero)) = refl
under_way_above (some (stands u (suc c))) = refl

pub passage_is_chance : (m : List Move) (n u v : ℕ) → first_passage m n u v ≡ chance (rules_for m) n u 0 v
unfolding first_passage chance_from
passage_is_chance m n u v = sym (within_moves _ _ (λ l c. empty_at_zero v c) m u 1 n)

pub moves_are_steps : (m : List Move) (n u : ℕ) → mean_moves m n u ≡ mean (rules_for m) n u 0
unfolding mean_moves counted
moves_are_steps m n u =
    sym (ap₂ ◌+◌ (within_moves _ _ (λ l c. ap₂ ◌*◌ (length-map l rule_for) (returned_at_zero c)) m u 1 n)
    (over_moves_lem _ _ (λ l c. ap₂ ◌*◌ (length-map l rule_for) (under_way_above c)) m u 1 n))
