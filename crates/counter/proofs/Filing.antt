-- Filing a counter file as the code does it: a refusal leaves the register as it is, and the model that an accepted one makes is filed.
use Prim.Native.Nat.{ℕ}
use mathlib.Core.Bool.{Bool, true, false, cond, false≢true}
use mathlib.Core.List.{List}
use mathlib.Core.Path.{◌≡◌, refl, sym, ap, ◌∙◌}
use lib.IntN.{pos}
use Rattle.outcome.specs.declared.Reason.TheVariants.{ModelHeld}
use Rattle.outcome.proofs.Tests.{refusal_not_accepted, not_refused}
use Rattle.filing.specs.Outcomes.{model_outcome}
use Rattle.filing.proofs.Outcomes.{model_judged}
use Rattle.register.specs.declared.Register.{Register}
use Rattle.register.specs.Filing.{turned_down, file_model}
use Rattle.register.specs.Questions.{has_model}
use Rattle.counter.specs.Verdict.{counter_verdict}
use Rattle.counter.specs.Made.{counter_model}
use Rattle.counter.specs.Filing.{counter_outcome, counter_by, file_counter}
use Rattle.counter.specs.Accepted.{MovesRight}
use Rattle.counter.proofs.Accepted.{counter_accepted}
use Rattle.counter.proofs.Made.{made_accepted}
use Rattle.outcome.specs.Outcomes.{Outcome, Accepted, Refused, is_refused}
use Rattle.std.specs.Prelude.{Err, Ok}
use Rattle.outcome.specs.declared.Refusal.{Refusal}

-- ---- the outcome

module _ (r : Register) (c : List ℕ) where
  pub counter_where_held : has_model r ≡ true → counter_outcome r c ≡ Refused ModelHeld 0 (pos 0)
  unfolding counter_outcome
  counter_where_held e = rw e

  pub counter_judged : has_model r ≡ false → counter_outcome r c ≡ counter_verdict c
  unfolding counter_outcome
  counter_judged e = rw e

-- Where it is acceptance, no model is held and the file passes.
pub counter_passed : (r : Register) (c : List ℕ) → counter_outcome r c ≡ Accepted → (has_model r ≡ false) × (counter_verdict c ≡ Accepted)
unfolding counter_outcome
counter_passed r c = go (has_model r)
  where
    go : (t : Bool) → cond t (Refused ModelHeld 0 (pos 0)) (counter_verdict c) ≡ Accepted → (t ≡ false) × (counter_verdict c ≡ Accepted)
    go true e = absurd (refusal_not_accepted _ e refl)
    go false e = (refl, e)

-- So its records are right.
pub counter_right : (r : Register) (c : List ℕ) → counter_outcome r c ≡ Accepted → MovesRight c
counter_right r c e = ((counter_accepted c).0 (counter_passed r c e).1).records

-- ---- the filing

-- A refusal leaves the register as it is, by the outcome.
pub counter_by_lem : (o : Outcome) (r : Register) (c : List ℕ) → is_refused o ≡ true → turned_down r o ≡ counter_by o r c
counter_by_lem (Ok u) r c e = absurd (false≢true e)
counter_by_lem (Err why) r c e = refl

pub counter_turned_down : (r : Register) (c : List ℕ) {why : Refusal} → counter_outcome r c ≡ Err why → turned_down r (Err why) ≡ file_counter r c
unfolding file_counter
counter_turned_down r c e = rw e

-- The made model is filed as any model: none is held, and it is accepted.
module _ (r : Register) (c : List ℕ) where
  pub counter_filed : {o : Outcome} (found : o ≡ counter_outcome r c) → is_refused o ≡ false → file_model r (counter_model c) ≡ file_counter r c
  unfolding file_counter file_model has_model
  counter_filed {o} found e =
      let accepted : counter_outcome r c ≡ Accepted = sym found ∙ not_refused o e in
      let (free, file) = counter_passed r c accepted in
      let made : model_outcome r.model.length (counter_model c) ≡ Accepted = model_judged _ _ free ∙ made_accepted c file in
      rw (accepted, made)

  -- The same of bytes that are that model.
  pub bytes_filed : (m : List ℕ) → counter_outcome r c ≡ Accepted → m ≡ counter_model c → file_model r m ≡ file_counter r c
  bytes_filed m e is = ap (file_model r) is ∙ counter_filed (sym e) refl

-- What the filing by value goes by.
pub ruleset filing = (counter_right, counter_turned_down, bytes_filed)

-- ---- a refused filing leaves the register as it is

kept_by : (o : Outcome) (r : Register) (c : List ℕ) → is_refused (counter_by o r c).outcome ≡ true → (counter_by o r c).register ≡ r
kept_by (Ok u) r c e = absurd (false≢true e)
kept_by (Err why) r c e = refl

pub counter_keeps : (r : Register) (c : List ℕ) → is_refused (file_counter r c).outcome ≡ true → (file_counter r c).register ≡ r
unfolding file_counter
counter_keeps r c e = kept_by (counter_outcome r c) r c e
