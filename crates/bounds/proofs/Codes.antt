-- The number that stands for an outcome: it is 0 exactly for acceptance, a host can take a refusal's number and place apart again, and it
-- fits a u32.
use Prim.Native.Nat.{ℕ, ◌+◌, ◌*◌, ◌/◌, ◌%◌, ◌<◌}
use native.Mathlib.Omega.{arith}
use mathlib.Core.List.{List}
use mathlib.Core.Logic.{◌↔◌}
use mathlib.Core.Path.{◌≡◌, refl, ◌∙◌}
use lib.IntN.{ℤ, negsuc}
use Rattle.outcome.specs.declared.Reason.{Reason}
use Rattle.outcome.specs.Reasons.{number_of}
use Rattle.outcome.proofs.Numbers.{number_some}
use Rattle.wellformed.specs.Verdict.{model_verdict}
use Rattle.model.specs.W.{w_file}
use Rattle.wellformed.proofs.Places.{model_place}
use Rattle.verdict.specs.Verdict.{verdict}
use Rattle.certificate.specs.Edges.{refused, answer_of, w_delivery}
use Rattle.certificate.proofs.Edges.{edges_hold}
use Rattle.verdict.proofs.Places.{place_fits}
use Rattle.bounds.specs.Codes.{code_of, shortfall_of}
use Rattle.bounds.specs.Clauses.{place_of}
use Rattle.outcome.specs.Outcomes.{Outcome, Accepted, Refused}
use Rattle.std.specs.Prelude.{Err, Ok, MatchResult}
use Rattle.certificate.proofs.Steps.{model_decides}

-- ---- what the number says

-- 0 stands for acceptance alone.
pub code_accepted : (o : Outcome) → (code_of o ≡ 0) ↔ (o ≡ Accepted)
code_accepted (Ok u) = (λ e. refl, λ e. refl)
code_accepted (Err why) = (
  λ e. absurd (omega (arith, number_some why.reason)),
  λ e. cc,
)

-- A refusal's number and place, taken apart again.
apart : (o : Outcome) {r : Reason} {i : ℕ} {k : ℤ} → o ≡ Refused r i k → i < 65536 → (code_of o / 65536 ≡ number_of r) × (code_of o % 65536 ≡ i)
apart o e below = (rw e (omega arith), rw e (omega arith))

pub model_code : (b : List ℕ) {r : Reason} {i : ℕ} {k : ℤ} → model_verdict b ≡ Refused r i k
    → (code_of (model_verdict b) / 65536 ≡ number_of r) × (code_of (model_verdict b) % 65536 ≡ i)
model_code b e = apart (model_verdict b) e (model_place b _ _ _ e)

pub delivery_code : (b d : List ℕ) {r : Reason} {i : ℕ} {k : ℤ} → verdict b d ≡ Refused r i k
    → (code_of (verdict b d) / 65536 ≡ number_of r) × (code_of (verdict b d) % 65536 ≡ i)
delivery_code b d e = apart (verdict b d) e (place_fits b d _ _ _ e)

-- An outcome by document 01's numbers, as one number and its shortfall.
by_answer : (o : Outcome) {n j : ℕ} {k : ℤ} → answer_of o ≡ refused n j k → (code_of o ≡ n * 65536 + j) × (shortfall_of o ≡ k)
by_answer (Ok u) e = cc
by_answer (Err why) {n} {j} e = let number : number_of why.reason ≡ n = cc in let place : why.place ≡ j = cc in (rw (number, place), cc)

-- W with second upper 466,033: 24 at place 1, which is 1572865, and the shortfall −30064771072.
pub w_code : (code_of (verdict w_file (w_delivery 466033 512)) ≡ 1572865) × (shortfall_of (verdict w_file (w_delivery 466033 512)) ≡ negsuc 30064771071)
w_code = by_answer (verdict w_file (w_delivery 466033 512)) edges_hold.1.1.1.1.0

-- ---- how the code makes it

-- The model's outcome decides where it refuses, and else the delivery's.
pub decided : (b d : List ℕ) (o x : Outcome) → o ≡ model_verdict b → MatchResult o (λ u. x ≡ verdict b d) (λ why. x ≡ Err why) → x ≡ verdict b d
decided b d (Ok u) x e found = found
decided b d (Err why) x e found = found ∙ model_decides b d (Err why) e refl

-- Where every refusal has its place below 65,536, so has the outcome.
pub place_below : (o : Outcome) → ((r : Reason) (i : ℕ) (k : ℤ) → o ≡ Refused r i k → i < 65536) → place_of o < 65536
place_below (Ok u) f = omega arith
place_below (Err why) f = f why.reason why.place why.shortfall refl
