-- First passage to zero by the model that a counter file makes: its chances are those of the machine's runs, and its equations are (19).
use Prim.Native.Nat.{ℕ}
use mathlib.Core.List.{List}
use mathlib.Core.Path.{◌≡◌, sym, ap, subst, ◌∙◌}
use Rattle.ppda.specs.Chances.{chance, mean}
use Rattle.ppda.specs.Equations.{Vector, f}
use Rattle.ppda.specs.Bounds.{UpperHolds, LowerHolds, MeanHolds, TailHolds}
use Rattle.model.specs.Records.{states_of}
use Rattle.model.specs.Rules.{rules_of}
use Rattle.onecounter.specs.Passage.{first_passage, mean_moves}
use Rattle.onecounter.specs.Equation.{passage_side}
use Rattle.onecounter.specs.Promised.{PassageUpper, PassageLower, PassageMean, PassageTail}
use Rattle.onecounter.proofs.Passage.{passage_is_chance, moves_are_steps}
use Rattle.onecounter.proofs.Equation.{equation_19}
use Rattle.onecounter.proofs.Promised.{passage_upper, passage_lower, passage_mean, passage_tail}
use Rattle.counter.specs.Records.{states_in}
use Rattle.counter.specs.Moves.{moves_of}
use Rattle.counter.specs.Accepted.{CounterFile}
use Rattle.counter.specs.Made.{counter_model}
use Rattle.counter.proofs.Made.{made_rules, made_states}

module _ (c : List ℕ) (file : CounterFile c) where
  -- "The chance of first reaching zero in v from count 1 within n moves equals the model's chance" (request A.2), and the mean of moves the model's mean.
  pub passage_of_file : (n u v : ℕ) → first_passage (moves_of c) n u v ≡ chance (rules_of (counter_model c)) n u 0 v
  passage_of_file n u v = passage_is_chance (moves_of c) n u v ∙ ap (λ m. chance m n u 0 v) (sym (made_rules c file))

  pub moves_of_file : (n u : ℕ) → mean_moves (moves_of c) n u ≡ mean (rules_of (counter_model c)) n u 0
  moves_of_file n u = moves_are_steps (moves_of c) n u ∙ ap (λ m. mean m n u 0) (sym (made_rules c file))

  -- "The model's equations are equation (19) of source document 000."
  pub equation_of_file : (d : ℕ) (x : Vector) (u v : ℕ)
      → f (rules_of (counter_model c)) (states_in c) d x u 0 v ≡ passage_side (moves_of c) (states_in c) d (λ a b. x a 0 b) u v
  equation_of_file d x u v =
      ap (λ m. f m (states_in c) d x u 0 v) (made_rules c file) ∙ equation_19 (moves_of c) (states_in c) d x u v file.machine.to_state

  -- What is promised of the model's runs is promised of first passage.
  pub passage_upper_of_file : (u v a : ℕ) → UpperHolds (rules_of (counter_model c)) u 0 v a → PassageUpper (moves_of c) u v a
  passage_upper_of_file u v a h = passage_upper (moves_of c) u v a (subst (λ m. UpperHolds m u 0 v a) (made_rules c file) h)

  pub passage_lower_of_file : (u v l a b : ℕ) → LowerHolds (rules_of (counter_model c)) u 0 v l a b → PassageLower (moves_of c) u v l a b
  passage_lower_of_file u v l a b h = passage_lower (moves_of c) u v l a b (subst (λ m. LowerHolds m u 0 v l a b) (made_rules c file) h)

  pub passage_mean_of_file : (u r : ℕ) → MeanHolds (rules_of (counter_model c)) u 0 r → PassageMean (moves_of c) u r
  passage_mean_of_file u r h = passage_mean (moves_of c) u r (subst (λ m. MeanHolds m u 0 r) (made_rules c file) h)

  pub passage_tail_of_file : (u r : ℕ) → TailHolds (rules_of (counter_model c)) (states_of (counter_model c)) u 0 r → PassageTail (moves_of c) (states_in c) u r
  passage_tail_of_file u r h = passage_tail (moves_of c) u (states_in c) r (rw (made_rules c file, made_states c file) at h)
