-- What questions on short runs need of a held model.
use Rattle.std.specs.Prelude.{ℕ, ◌+◌, ◌<◌, Bool, true, false, List, ◌≡◌, take}
use Rattle.std.proofs.Math.ListN as ListN
use Rattle.calls.specs.declared.Question.{Question}
use Rattle.calls.specs.declared.Question.TheVariants as Asks
use Rattle.model.specs.declared.sizes.Sizes.{Sizes}
use Rattle.model.specs.Format.{most_rows}
use Rattle.model.specs.Sizes.{sizes_of}
use Rattle.wellformed.specs.Verdict.{model_verdict}
use Rattle.rows.specs.Clauses.{Indexed}
use Rattle.held.specs.Held.{holds_model}
use Rattle.outcome.specs.Outcomes.{is_refused}

-- Whether a question is on a short run.
abbrev pub is_short : Question → Bool
is_short (Asks.Upper p z q) = false
is_short (Asks.Lower p z q) = false
is_short (Asks.MeanSteps p z) = false
is_short Asks.Margin = false
is_short (Asks.Live p z q) = false
is_short (Asks.Within n p z q) = true

-- No sizes.
abbrev pub none : Sizes
none = record { states = 0; symbols = 0 }

-- The sizes of the model b, and where its rows start; no states where b is no model.
pub record RowsOf (b : List ℕ) (n : Sizes) (starts : List ℕ) : Type 0 where
  pub sizes : is_refused (model_verdict b) ≡ false → n ≡ sizes_of b
  pub indexed : is_refused (model_verdict b) ≡ false → Indexed b n starts
  pub no_model : is_refused (model_verdict b) ≡ true → n.states ≡ 0

-- The same of the model that is held in the first bytes, as many as its length says.
abbrev pub Indexes : ℕ → Sizes → List ℕ → List ℕ → Type 0
Indexes length n bytes starts = holds_model length ≡ true → RowsOf (take length bytes) n starts

-- An index that may not have been found yet: if it has states, it is that of the held model.
pub record Kept (length : ℕ) (n : Sizes) (bytes starts : List ℕ) : Type 0 where
  pub size : ListN.length starts ≡ most_rows + 1
  pub found : 0 < n.states → Indexes length n bytes starts

-- The index is that of the held model, if a question needs it.
abbrev pub IfNeeded : Bool → ℕ → Sizes → List ℕ → List ℕ → Type 0
IfNeeded needed length n bytes starts = needed ≡ true → Indexes length n bytes starts
