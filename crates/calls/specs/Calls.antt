-- The calls on a register and what they are replied (document 01, "Filing and questions").
use Rattle.std.specs.Prelude.{ℕ, Bool, true, false, List, ℤ, pos}

-- A call: clearing; filing a file's bytes as a model, as a counter machine (request A.2) or as a delivery; merging the held delivery with them as a second one
-- (request A.5); a question on an entry (p, z, q), a row (p, z) or
-- the whole; and on an entry's chance within n steps (request A.1).
pub data Call : Type 0 where
  clear : Call
  file_model : (b : List ℕ) → Call
  file_counter : (c : List ℕ) → Call
  file_delivery : (d : List ℕ) → Call
  merge : (d : List ℕ) → Call
  upper : (p z q : ℕ) → Call
  lower : (p z q : ℕ) → Call
  mean_steps : (p z : ℕ) → Call
  margin : Call
  live : (p z q : ℕ) → Call
  within : (n p z q : ℕ) → Call

-- A reply, by document 01's numbers: cleared; a model or a counter file accepted; a delivery accepted, filed or merged, and marked; the number asked for; a refusal.
pub data Reply : Type 0 where
  cleared : Reply
  accepted : Reply
  known : Reply
  new : Reply
  value : (n : ℕ) → Reply
  refused : (number place : ℕ) (shortfall : ℤ) → Reply

-- A refusal at place 0 that misses no inequality, as all from 40 to 46 are.
abbrev pub refusal : ℕ → Reply
refusal n = refused n 0 (pos 0)

-- Whether a filing was accepted.
abbrev pub taken : Reply → Bool
taken cleared = false
taken accepted = true
taken known = true
taken new = true
taken (value n) = false
taken (refused n i k) = false
