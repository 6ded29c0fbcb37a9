-- What a check answers (document 01, "Reasons found in the files, in order"): accepted, or refused with a reason, a place and a shortfall.
use Rattle.std.specs.Prelude.{ℕ, ℤ, Bool, Result, Ok, Err, is_err}
use Rattle.outcome.specs.declared.Reason.{Reason}
use Rattle.outcome.specs.declared.Refusal.{Refusal}

abbrev pub Outcome : Type 0
Outcome = Result (Unit {0}) Refusal

abbrev pub Accepted : Outcome
Accepted = Ok tt

-- "Place" is document 01's term for where a file fails: a record's or a row's number. "Shortfall" is its term for how far a failed inequality misses.
abbrev pub Refused : {T : Type 0} → Reason → ℕ → ℤ → Result T Refusal
Refused r i k = Err (record { reason = r; place = i; shortfall = k })

-- Whether an answer is a refusal.
abbrev pub is_refused : {T : Type 0} → Result T Refusal → Bool
is_refused o = is_err o
