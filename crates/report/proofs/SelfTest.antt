-- The self-test: a cleared register accepts W, as its table of exchanges has it, and refuses W without its last byte for its length.
use Prim.Native.Nat.{ℕ}
use native.Mathlib.Omega.{arith}
use mathlib.Core.Bool.{true, false}
use mathlib.Core.List.{List}
use mathlib.Core.Path.{◌≡◌, refl}
use lib.ListN.{take}
use Rattle.outcome.specs.Tests.{first}
use Rattle.model.specs.W.{w_file}
use Rattle.wellformed.specs.Verdict.{whole_records, model_tests, model_verdict}
use Rattle.register.specs.declared.Register.{Register}
use Rattle.register.specs.declared.Filed.{Filed}
use Rattle.held.specs.Held.{holds_model, no_model}
use Rattle.filing.specs.Outcomes.{model_outcome}
use Rattle.register.specs.Filing.{cleared, file_model}
use Rattle.calls.specs.Calls as calls
use Rattle.calls.specs.Answers.{model_reply}
use Rattle.history.specs.Run.{reply_of, replies}
use Rattle.history.proofs.Edges.{model_replied}
use Rattle.report.specs.SelfTest.{filings, test_filed, passed}
use Rattle.outcome.specs.Outcomes.{Outcome, is_refused}
use Rattle.std.specs.Prelude.{Err, Ok}

not_refused : (o : Outcome) → model_reply o ≡ calls.accepted → is_refused o ≡ false
not_refused (Ok u) e = refl
not_refused (Err why) e = let z : ◌≡◌ {A = ℕ} 0 1 = cc in absurd (omega arith)

whole_accepted : is_refused (file_model cleared w_file).outcome ≡ false
unfolding reply_of replies
whole_accepted = not_refused (file_model cleared w_file).outcome (cc model_replied)

cut_refused : is_refused (file_model cleared (take 39 w_file)).outcome ≡ true
unfolding first whole_records model_tests model_verdict holds_model no_model cleared model_outcome file_model
cut_refused = refl

-- The self-test passes.
pub self_test_passes : passed test_filed ≡ true
unfolding test_filed
self_test_passes = rw (whole_accepted, cut_refused)

-- What the code files.
pub filed_so : {w : List ℕ} {e k : Register} {whole cut : Filed} → w ≡ w_file → e ≡ cleared → whole ≡ file_model e w → k ≡ cleared
    → cut ≡ file_model k (take 39 w) → filings whole cut ≡ test_filed
unfolding test_filed
filed_so is-w none filed none' filed' = rw (filed, filed', none, none', is-w)
