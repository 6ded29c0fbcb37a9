-- A check is a list of tests in a fixed order, and its outcome is the first that fails (document 01, "Reasons found in the files, in
-- order").
use Rattle.std.specs.Prelude.{ℕ, Bool, true, false, cond, List, [], ◌∷◌, ◌++◌, ◌≡◌, ℤ, pos}
use Rattle.outcome.specs.declared.Reason.{Reason}
use Rattle.outcome.specs.Outcomes.{Outcome, Accepted, Refused}

-- One test: whether it fails, and the reason, the place and the shortfall to give if it does.
pub record Test : Type 0 where
  pub fails : Bool
  pub reason : Reason
  pub place : ℕ
  pub shortfall : ℤ

-- A test that is no inequality, or whose inequality has no shortfall in document 01: its shortfall is 0.
abbrev pub plain : Bool → Reason → ℕ → Test
plain t r i = record { fails = t; reason = r; place = i; shortfall = pos 0 }

-- The answer of a test that fails.
abbrev pub refusal : Test → Outcome
refusal t = Refused t.reason t.place t.shortfall

-- The outcome of a list of tests: the first that fails.
unfoldable pub first : List Test → Outcome
first [] = Accepted
first (t ∷ ts) = cond t.fails (refusal t) (first ts)

-- No test of the list fails.
abbrev pub Passed : List Test → Type 0
Passed [] = Unit {0}
Passed (t ∷ ts) = (t.fails ≡ false) × Passed ts

-- The test fails, and none before it in the list.
pub record FirstFailure (ts : List Test) (t : Test) : Type 0 where
  pub before : List Test
  pub after : List Test
  pub split : ts ≡ before ++ (t ∷ after)
  pub passed : Passed before
  pub fails : t.fails ≡ true
