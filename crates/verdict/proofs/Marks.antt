-- The live marks that are shown, by the verdict on the model.
use Prim.Native.Nat.{ℕ, ◌<◌}
use mathlib.Core.Bool.{true}
use mathlib.Core.List.{List}
use mathlib.Core.Logic.{◌↔◌}
use mathlib.Core.Path.{◌≡◌}
use Rattle.ppda.specs.Live.{is_live, Live}
use Rattle.ppda.proofs.Live.{live_by_rounds}
use Rattle.model.specs.Records.{states_of, symbols_of}
use Rattle.model.specs.Rules.{rules_of}
use Rattle.wellformed.specs.Verdict.{model_verdict}
use Rattle.model.proofs.Accepted.{is_model_lem}
use Rattle.wellformed.proofs.Accepted.{model_accepted}
use Rattle.verdict.specs.Marks.{live_mark}
use Rattle.outcome.specs.Outcomes.{Accepted}

-- The marks shown of an accepted model are those of document 01: live where some run empties the stack.
pub live_marks_by_runs : (b : List ℕ) → model_verdict b ≡ Accepted → (p z q : ℕ) → p < states_of b → z < symbols_of b → q < states_of b
    → (is_live (live_mark b p z q) ≡ true) ↔ Live (rules_of b) p z q
unfolding live_mark
live_marks_by_runs b e p z q hp hz hq =
    rw e (live_by_rounds (rules_of b) (states_of b) (symbols_of b) (is_model_lem b ((model_accepted b).0 e)) p z q hp hz hq)
