-- The record that a check's refusal names is handed back whole: 10 bytes of the model for 11 to 14, 8 bytes of the delivery for 21 to 27.
use Prim.Native.Nat.{ℕ, ◌*◌, ◌/◌, ◌≤◌, ◌<◌}
use native.Mathlib.Omega.{arith}
use mathlib.Core.List.{List}
use mathlib.Core.Path.{◌≡◌}
use lib.IntN.{ℤ}
use lib.ListN.{length}
use borrow.Author.Tests.{lt-ltb, le-leb, lt-leb, ne_eqb}
use Rattle.outcome.specs.declared.Reason.{Reason}
use Rattle.outcome.specs.Reasons.{number_of}
use Rattle.model.specs.Format as model
use Rattle.delivery.specs.Format as delivery
use Rattle.model.specs.Records.{records_of}
use Rattle.wellformed.specs.Verdict.{model_verdict}
use Rattle.wellformed.proofs.Places.{model_record_lem}
use Rattle.verdict.specs.Verdict.{verdict}
use Rattle.verdict.proofs.Places.{rule_record_lem, bound_record}
use Rattle.parts.specs.Parts.{bytes_from, nothing, is_whole, record_part, names_rule, names_bound, names_model, in_model, in_delivery, offending_part}
use Rattle.outcome.specs.Outcomes.{Refused}

-- The part for a number and a whole record.
module _ (n i : ℕ) (b d : List ℕ) where
  rule_part : 11 ≤ n → n ≤ 14 → i < records_of b → offending_part n i b d ≡ in_model (bytes_from (model.record_bytes * i) model.record_bytes)
  unfolding offending_part names_model names_rule is_whole record_part records_of
  rule_part from to l =
      rw (
        ne_eqb n 10 (λ e. omega arith),
        ne_eqb n 15 (λ e. omega arith),
        le-leb 11 n from,
        le-leb n 14 to,
        lt-ltb i (length b / 10) l,
      )

  bound_part : 21 ≤ n → n ≤ 27 → i < length d / delivery.record_bytes → offending_part n i b d ≡ in_delivery (bytes_from (delivery.record_bytes * i) delivery.record_bytes)
  unfolding offending_part names_model names_rule names_bound is_whole record_part
  bound_part from to l =
      rw (
        ne_eqb n 10 (λ e. omega arith),
        ne_eqb n 15 (λ e. omega arith),
        le-leb 11 n (omega arith),
        lt-leb n 14 (omega arith),
        le-leb 21 n from,
        le-leb n 27 to,
        lt-ltb i (length d / delivery.record_bytes) l,
      )

-- Of a model that its own check refuses, beside any delivery.
pub offending_of_model : (b d : List ℕ) (r : Reason) (i : ℕ) (k : ℤ) → model_verdict b ≡ Refused r i k → 11 ≤ number_of r → number_of r ≤ 14
    → offending_part (number_of r) i b d ≡ in_model (bytes_from (model.record_bytes * i) model.record_bytes)
offending_of_model b d r i k e from to = rule_part (number_of r) i b d from to (model_record_lem b r i k e from to)

-- Of a delivery checked with its model.
pub offending_rule : (b d : List ℕ) (r : Reason) (i : ℕ) (k : ℤ) → verdict b d ≡ Refused r i k → 11 ≤ number_of r → number_of r ≤ 14
    → offending_part (number_of r) i b d ≡ in_model (bytes_from (model.record_bytes * i) model.record_bytes)
offending_rule b d r i k e from to = rule_part (number_of r) i b d from to (rule_record_lem b d r i k e from to)

pub offending_bound : (b d : List ℕ) (r : Reason) (i : ℕ) (k : ℤ) → verdict b d ≡ Refused r i k → 21 ≤ number_of r → number_of r ≤ 27
    → offending_part (number_of r) i b d ≡ in_delivery (bytes_from (delivery.record_bytes * i) delivery.record_bytes)
offending_bound b d r i k e from to = bound_part (number_of r) i b d from to (bound_record b d r i k e from to)

-- Every number above 27, those of the register among them, names nothing: the start of the delivery.
pub offending_none : (n i : ℕ) (b d : List ℕ) → 27 < n → offending_part n i b d ≡ in_delivery nothing
unfolding offending_part names_model names_rule names_bound
offending_none n i b d above =
    rw (
      ne_eqb n 10 (λ e. omega arith),
      ne_eqb n 15 (λ e. omega arith),
      le-leb 11 n (omega arith),
      lt-leb n 14 (omega arith),
      le-leb 21 n (omega arith),
      lt-leb n 27 (omega arith),
    )
