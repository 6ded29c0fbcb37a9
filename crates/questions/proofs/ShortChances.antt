-- The chance that is shown of bytes, by the index that is found of them.
use Prim.Native.Nat.{ℕ, ◌≤◌, ◌<◌}
use native.Mathlib.Omega.{arith}
use mathlib.Core.Bool.{true, false}
use mathlib.Core.List.{List}
use mathlib.Core.Path.{◌≡◌}
use borrow.Author.Tests.{leb-true}
use Rattle.outcome.proofs.Tests.{by_cases}
use Rattle.ppda.specs.Chances.{chance}
use Rattle.model.specs.declared.sizes.Sizes.{Sizes}
use Rattle.model.specs.Rules.{rules_of}
use Rattle.wellformed.specs.Verdict.{model_verdict}
use Rattle.held.specs.Places.{has_entry}
use Rattle.shortruns.specs.Short.{most_steps, few_steps}
use Rattle.questions.specs.Questions.{short_chance}
use Rattle.questions.specs.Clauses.{RowsOf}
use Rattle.outcome.specs.Outcomes.{is_refused}

pub few_exactly : (n : ℕ) → few_steps n ≡ true → n ≤ most_steps
unfolding few_steps
few_exactly n few = leb-true n most_steps few

-- ---- what is shown by an index

module _ {b : List ℕ} {n : Sizes} {starts : List ℕ} (index : RowsOf b n starts) where
  -- Bytes whose index has a state are a model.
  pub is_model_lem : {p : ℕ} → p < n.states → is_refused (model_verdict b) ≡ false
  is_model_lem inside = by_cases (is_refused (model_verdict b)) (λ e. e) (λ e. absurd (omega (arith, index.no_model e)))

  -- No such entry, too many steps, or no model.
  pub no_such_entry : (k p z q : ℕ) → has_entry n.states n.symbols p z q ≡ false → 0 ≡ short_chance b k p z q
  unfolding short_chance
  no_such_entry k p z q not =
      by_cases (is_refused (model_verdict b)) (λ e. let none = rw (index.sizes e) at not in rw (e, none)) (λ e. rw e)

  pub too_many_steps : (k p z q : ℕ) → few_steps k ≡ false → 0 ≡ short_chance b k p z q
  unfolding short_chance
  too_many_steps k p z q not = grind arith

  -- The entry is the model's, and the steps are few.
  pub short_is_chance : (k p z q : ℕ) → p < n.states → has_entry n.states n.symbols p z q ≡ true → few_steps k ≡ true
      → chance (rules_of b) k p z q ≡ short_chance b k p z q
  unfolding short_chance
  short_is_chance k p z q inside there few =
      let e = is_model_lem inside in
      let here = rw (index.sizes e) at there in
      rw (e, here, few)
