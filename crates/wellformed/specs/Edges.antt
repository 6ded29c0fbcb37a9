-- The order of model records, field by field (document 01, reason 14; request A.4).
use Rattle.std.specs.Prelude.{ℕ, List, [], ◌∷◌, ◌++◌, pos}
use Rattle.outcome.specs.declared.Reason.TheVariants.{NotAscending, RowSumWrong}
use Rattle.model.specs.Made.{model_record}
use Rattle.wellformed.specs.Verdict.{model_verdict}
use Rattle.outcome.specs.Outcomes.{Outcome, Refused}

-- Two records, of which the second lies above the first.
pub record Pair : Type 0 where
  pub low : List ℕ
  pub high : List ℕ

abbrev pair : List ℕ → List ℕ → Pair
pair a b = record { low = a; high = b }

-- By p, Z, q, L, Y and X: alike before this field, the one with more there has the least behind it.
abbrev pub ordered : List Pair
ordered =
    pair (model_record 0 15 7 2 15 15 1) (model_record 1 0 0 0 0 0 1)
    ∷ pair (model_record 0 0 7 2 15 15 1) (model_record 0 1 0 0 0 0 1)
    ∷ pair (model_record 0 0 0 2 15 15 1) (model_record 0 0 1 0 0 0 1)
    ∷ pair (model_record 0 0 0 1 15 0 1) (model_record 0 0 0 2 0 0 1)
    ∷ pair (model_record 0 0 0 2 0 15 1) (model_record 0 0 0 2 1 0 1)
    ∷ pair (model_record 0 0 0 2 0 0 1) (model_record 0 0 0 2 0 1 1)
    ∷ []

-- A pair as a file: in its order, in the other, and the second record twice. In its order the records ascend, and the first row's sum is wrong.
abbrev pub as_file : Pair → Outcome
as_file x = model_verdict (x.low ++ x.high)

abbrev pub turned : Pair → Outcome
turned x = model_verdict (x.high ++ x.low)

abbrev pub twice : Pair → Outcome
twice x = model_verdict (x.high ++ x.high)

abbrev pub row_wrong : Pair → Outcome
row_wrong x = Refused RowSumWrong 0 (pos 0)

abbrev pub not_ascending : Pair → Outcome
not_ascending x = Refused NotAscending 1 (pos 0)
