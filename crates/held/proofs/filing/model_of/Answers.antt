-- `model_of`: an accepted file fits, its states and symbols are few, and the live marks found are the definition's.
use native.Mathlib.Omega.{arith}
use Rattle.model.specs.Clauses.{Fits}
use Rattle.model.proofs.Accepted.{sized_fits}
use Rattle.wellformed.proofs.Accepted.{sized_by}
use Rattle.held.proofs.Becomes.{model_fits, model_is}
use Rattle.held.proofs.filing.model_of.Goals as goal

pub overflow_cast-states : goal.overflow_cast-states
overflow_cast-states c =
    let few : let n = c.sizes_of-n.result in Fits n.states n.symbols =
    sized_fits (sized_by c.requires c.sizes_of-n.ensures.0) in
    omega (arith, few.few_states)

pub overflow_cast-symbols : goal.overflow_cast-symbols
overflow_cast-symbols c =
    let few : let n = c.sizes_of-n.result in Fits n.states n.symbols =
    sized_fits (sized_by c.requires c.sizes_of-n.ensures.0) in
    omega (arith, few.few_symbols)

pub copied-requires : goal.copied-requires
copied-requires c = model_fits _ c.requires

pub returns : goal.returns
returns c = model_is _ c.copied.ensures c.sizes_of-n.ensures.0 c.live_marks.ensures
