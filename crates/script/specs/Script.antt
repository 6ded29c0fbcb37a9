-- What a script of calls prints: the replies of the plain pair (crate history) to the calls that its lines say, in text (docs/RULES.md, "The desk").
use Rattle.std.specs.Prelude.{ℕ, Bool, false, not, ◌&&◌, List, [], ◌∷◌, ◌++◌, map, ◌≡◌}
use Rattle.text.specs.Reading.{pieces}
use Rattle.calls.specs.Calls.{Call, clear, file_model, file_counter, file_delivery, merge}
use Rattle.calls.specs.Answers.{question_call}
use Rattle.history.specs.Plain.{Event, pair_of, plain_reply}
use Rattle.said.specs.declared.Change.{Change}
use Rattle.said.specs.declared.Change.TheVariants.{Clear, Model, Counter, Delivery, Merge}
use Rattle.said.specs.declared.Said.{Said}
use Rattle.said.specs.declared.Said.TheVariants as Says
use Rattle.said.specs.Said.{said_by}
use Rattle.replies.specs.Replies.{reply_line, unclear_line}

-- A line of a script, and the bytes that the system hands out for the file that it names: any, where it names none or none is read.
pub record LineRead : Type 0 where
  pub bytes : List ℕ
  pub file : List ℕ

-- What a line asks of a desk: nothing, what is no call, or a call.
pub data Asked : Type 0 where
  nothing : Asked
  unclear : Asked
  call : (c : Call) → Asked

-- What is said, where the file that it names has these bytes.
abbrev pub change_call : Change → List ℕ → Call
change_call Clear f = clear
change_call Model f = file_model f
change_call Counter f = file_counter f
change_call Delivery f = file_delivery f
change_call Merge f = merge f

abbrev pub asked_by : Said → List ℕ → Asked
asked_by Says.Nothing f = nothing
asked_by Says.Unclear f = unclear
asked_by (Says.Change c) f = call (change_call c f)
asked_by (Says.Question a) f = call (question_call a)

abbrev pub asks : LineRead → Asked
asks l = asked_by (said_by l.bytes) l.file

-- Whether a file is read, by whether a model and a delivery are held: the register's own reasons, 41, 40 and 42, come before any file is read.
abbrev pub change_reads : Bool → Bool → Change → Bool
change_reads model delivery Clear = false
change_reads model delivery Model = not model
change_reads model delivery Counter = not model
change_reads model delivery Delivery = model
change_reads model delivery Merge = model && delivery

abbrev pub reads_file : Bool → Bool → Said → Bool
reads_file model delivery Says.Nothing = false
reads_file model delivery Says.Unclear = false
reads_file model delivery (Says.Change c) = change_reads model delivery c
reads_file model delivery (Says.Question a) = false

-- ---- what is printed, after the history es (latest first)

-- The history after a line. One that asks nothing or is unclear changes nothing.
abbrev pub events_by : List Event → Asked → List Event
events_by es nothing = es
events_by es unclear = es
events_by es (call c) = record { call = c; reply = plain_reply (pair_of es) c } ∷ es

-- What is printed for a line: nothing, `unclear`, or the reply of the plain pair.
abbrev pub text_by : List Event → Asked → List ℕ
text_by es nothing = []
text_by es unclear = unclear_line
text_by es (call c) = reply_line (plain_reply (pair_of es) c)

-- What is printed for lines in their order.
unfoldable pub printed_after : List Event → List LineRead → List ℕ
printed_after es [] = []
printed_after es (l ∷ ls) = text_by es (asks l) ++ printed_after (events_by es (asks l)) ls

-- The calls that lines say, latest first, after the calls cs.
abbrev pub calls_by : List Call → Asked → List Call
calls_by cs nothing = cs
calls_by cs unclear = cs
calls_by cs (call c) = c ∷ cs

unfoldable pub calls_after : List Call → List LineRead → List Call
calls_after cs [] = cs
calls_after cs (l ∷ ls) = calls_after (calls_by cs (asks l)) ls

-- The text is what a desk prints of an input, with some bytes for each file that it reads. The lines of the input are what stands between line
-- ends (10), and after the last of them: where the input ends with a line end, that is an empty line, which asks nothing.
pub record Prints (input text : List ℕ) : Type 0 where
  pub lines : List LineRead
  pub of_input : map (λ l. l.bytes) lines ≡ pieces 10 input
  pub printed : text ≡ printed_after [] lines
