-- Filing a counter file, on any value of a register (request A.2).
use Rattle.std.specs.Prelude.{ℕ, cond, List, pos, Err, Ok}
use Rattle.outcome.specs.declared.Reason.TheVariants.{ModelHeld}
use Rattle.register.specs.declared.Register.{Register}
use Rattle.register.specs.declared.Filed.{Filed}
use Rattle.register.specs.Filing.{with_model, turned_down}
use Rattle.register.specs.Questions.{has_model}
use Rattle.counter.specs.Verdict.{counter_verdict}
use Rattle.counter.specs.Made.{counter_model}
use Rattle.outcome.specs.Outcomes.{Outcome, Accepted, Refused}

-- The outcome: 41 where a model is held, before the file is read; then the verdict on the file.
unfoldable pub counter_outcome : Register → List ℕ → Outcome
counter_outcome r c = cond (has_model r) (Refused ModelHeld 0 (pos 0)) (counter_verdict c)

-- Filing the counter file c, by the outcome: the register then holds the model that it makes.
abbrev pub counter_by : Outcome → Register → List ℕ → Filed
counter_by (Ok u) r c = record { register = with_model (counter_model c); outcome = Accepted }
counter_by (Err why) r c = turned_down r (Err why)

unfoldable pub file_counter : Register → List ℕ → Filed
file_counter r c = counter_by (counter_outcome r c) r c
