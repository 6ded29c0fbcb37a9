-- A desk byte by byte, as it runs: a register, and what is kept of the line that has not ended. Theorem `desk_prints` says that what it prints is what the script
-- prints (`Prints`), in whatever pieces the bytes come.
use Rattle.std.specs.Prelude.{ℕ, cond, List, [], ◌∷◌, ◌++◌, map, ◌≡◌, eqb, take}
use Rattle.register.specs.declared.Register.{Register}
use Rattle.register.specs.Filing.{cleared}
use Rattle.history.specs.Run.{after_call, reply_of}
use Rattle.said.specs.Said.{said_by}
use Rattle.replies.specs.Replies.{reply_line, unclear_line}
use Rattle.script.specs.Script.{Asked, nothing, unclear, call, asked_by}

-- The bytes that are kept of a line: one more than a line that says a call may have.
abbrev pub kept_bytes : ℕ
kept_bytes = 301

pub record State : Type 0 where
  pub register : Register
  pub line : List ℕ

-- A desk that has just been opened.
abbrev pub at_start : State
at_start = record { register = cleared; line = [] }

-- A byte of the input, and the bytes of the file that the line which it ends names: any, where it ends none or none is read.
pub record Byte : Type 0 where
  pub byte : ℕ
  pub file : List ℕ

-- The register after a line, and what is printed for it.
abbrev pub register_by : Register → Asked → Register
register_by r nothing = r
register_by r unclear = r
register_by r (call c) = after_call r c

abbrev pub reply_by : Register → Asked → List ℕ
reply_by r nothing = []
reply_by r unclear = unclear_line
reply_by r (call c) = reply_line (reply_of r c)

-- The state after a byte: one byte more of the line, of which the first bytes are kept, or its end.
abbrev pub longer : State → ℕ → State
longer s b = record { register = s.register; line = take kept_bytes (s.line ++ (b ∷ [])) }

abbrev pub line_ended : State → List ℕ → State
line_ended s f = record { register = register_by s.register (asked_by (said_by s.line) f); line = [] }

unfoldable pub byte_taken : State → Byte → State
byte_taken s x = cond (eqb x.byte 10) (line_ended s x.file) (longer s x.byte)

-- What is printed for a byte: the reply to the line that it ends.
unfoldable pub printed_by : State → Byte → List ℕ
printed_by s x = cond (eqb x.byte 10) (reply_by s.register (asked_by (said_by s.line) x.file)) []

-- The same of bytes one after the other.
unfoldable pub after_bytes : State → List Byte → State
after_bytes s [] = s
after_bytes s (x ∷ xs) = after_bytes (byte_taken s x) xs

unfoldable pub printed_for : State → List Byte → List ℕ
printed_for s [] = []
printed_for s (x ∷ xs) = printed_by s x ++ printed_for (byte_taken s x) xs

-- Bytes that take a desk from one state to another and have it print a text, with some bytes for each file that is read.
pub record Serves (s : State) (bytes : List ℕ) (t : State) (text : List ℕ) : Type 0 where
  pub taken : List Byte
  pub as_bytes : map (λ x. x.byte) taken ≡ bytes
  pub leads : after_bytes s taken ≡ t
  pub prints : printed_for s taken ≡ text

-- The same of pieces one after the other: what is printed for each, and for all.
pub data ServesPieces : State → List (List ℕ) → State → List ℕ → Type 0 where
  no_piece : {s : State} → ServesPieces s [] s []
  one_piece : {s t u : State} {p o o' : List ℕ} {ps : List (List ℕ)} → Serves s p t o → ServesPieces t ps u o' → ServesPieces s (p ∷ ps) u (o ++ o')
