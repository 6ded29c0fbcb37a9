-- The live marks that are shown of a model.
use Rattle.std.specs.Prelude.{ℕ, List, Err, Ok}
use Rattle.ppda.specs.Equations.{Vector}
use Rattle.ppda.specs.Live.{alive}
use Rattle.model.specs.Records.{states_of, symbols_of}
use Rattle.model.specs.Rules.{rules_of}
use Rattle.wellformed.specs.Verdict.{model_verdict}
use Rattle.outcome.specs.Outcomes.{Outcome}

-- A mark by the verdict on the model: nothing of a refused model is live.
abbrev pub mark_under : Outcome → ℕ → ℕ
mark_under (Ok u) a = a
mark_under (Err why) a = 0

-- The live mark of an entry of the model b.
unfoldable pub live_mark : List ℕ → Vector
live_mark b p z q = mark_under (model_verdict b) (alive (rules_of b) (states_of b) (symbols_of b) p z q)
