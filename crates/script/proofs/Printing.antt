-- What a desk prints, byte by byte, is what the script prints: the replies of the plain pair to the calls that the lines of the input say.
use Prim.Native.Nat.{ℕ, zero, suc}
use native.Mathlib.Omega.{arith}
use mathlib.Core.Bool.{Bool, true, false, cond}
use mathlib.Core.List.{List, [], ◌∷◌, ◌++◌, map, flatten, append-nil, append_assoc}
use mathlib.Core.Path.{◌≡◌, refl, sym, ap, ap₂, subst, ◌∙◌}
use lib.Dec.{eqb}
use lib.ListN.{take}
use Rattle.text.specs.Reading.{pieces}
use Rattle.calls.specs.Calls.{Call}
use Rattle.history.specs.Plain.{Event}
use Rattle.history.specs.Run.{register_after, reply_to, history}
use Rattle.history.specs.Mission.{Mission}
use Rattle.history.proofs.Plain.{as_plain_pair}
use Rattle.history.proofs.Mission.{mission}
use Rattle.said.specs.Said.{said_by}
use Rattle.said.proofs.Meaning.{kept_says}
use Rattle.replies.specs.Replies.{reply_line}
use Rattle.script.specs.Script.{LineRead, Asked, nothing, unclear, call, asked_by, asks, events_by, text_by, printed_after, calls_by, calls_after, Prints}
use Rattle.script.specs.Serving.{kept_bytes, State, at_start, Byte, register_by, reply_by, longer, line_ended, byte_taken, printed_by, after_bytes, printed_for, Serves, ServesPieces, no_piece, one_piece}
use Rattle.script.proofs.Pieces.{piece_longer, piece_ended, pieces_closed, last_off}

-- ---- one line

-- A register after any calls does with a line what the plain pair does.
register_by_lem : (cs : List Call) (a : Asked) → register_by (register_after cs) a ≡ register_after (calls_by cs a)
unfolding register_after
register_by_lem cs nothing = refl
register_by_lem cs unclear = refl
register_by_lem cs (call c) = refl

history_by : (cs : List Call) (a : Asked) → history (calls_by cs a) ≡ events_by (history cs) a
unfolding history
history_by cs nothing = refl
history_by cs unclear = refl
history_by cs (call c) = rw (as_plain_pair cs c)

pub reply_by_lem : (cs : List Call) (a : Asked) → reply_by (register_after cs) a ≡ text_by (history cs) a
reply_by_lem cs nothing = refl
reply_by_lem cs unclear = refl
reply_by_lem cs (call c) = ap reply_line (as_plain_pair cs c)

-- ---- lines in their order

events_after : List Event → List LineRead → List Event
events_after es [] = es
events_after es (l ∷ ls) = events_after (events_by es (asks l)) ls

history_after : (cs : List Call) (ls : List LineRead) → history (calls_after cs ls) ≡ events_after (history cs) ls
unfolding calls_after events_after
history_after cs [] = refl
history_after cs (l ∷ ls) = history_after (calls_by cs (asks l)) ls ∙ ap (λ es. events_after es ls) (history_by cs (asks l))

-- One line more, at the end.
calls_more : (cs : List Call) (ls : List LineRead) (l : LineRead) → calls_after cs (ls ++ (l ∷ [])) ≡ calls_by (calls_after cs ls) (asks l)
unfolding calls_after
calls_more cs [] l = refl
calls_more cs (k ∷ ls) l = calls_more (calls_by cs (asks k)) ls l

printed_more : (es : List Event) (ls : List LineRead) (l : LineRead)
    → printed_after es (ls ++ (l ∷ [])) ≡ printed_after es ls ++ text_by (events_after es ls) (asks l)
unfolding printed_after events_after
printed_more es [] l = append-nil (text_by es (asks l))
printed_more es (k ∷ ls) l =
    ap (λ t. text_by es (asks k) ++ t) (printed_more (events_by es (asks k)) ls l)
    ∙ sym (append_assoc (text_by es (asks k)) (printed_after (events_by es (asks k)) ls) (text_by (events_after (events_by es (asks k)) ls) (asks l)))

lines_more : (ls : List LineRead) (l : LineRead) → map (λ l. l.bytes) (ls ++ (l ∷ [])) ≡ map (λ l. l.bytes) ls ++ (l.bytes ∷ [])
lines_more [] l = refl
lines_more (k ∷ ls) l = ap (λ t. k.bytes ∷ t) (lines_more ls l)

-- ---- byte by byte

-- The state of a desk after the input, and what it has printed: lines that have ended, and the rest, of which the first bytes are kept.
record Follows (input : List ℕ) (s : State) (text : List ℕ) : Type 0 where
  lines : List LineRead
  rest : List ℕ
  so_far : pieces 10 input ≡ map (λ l. l.bytes) lines ++ (rest ∷ [])
  line_kept : s.line ≡ take kept_bytes rest
  register_is : s.register ≡ register_after (calls_after [] lines)
  text_is : text ≡ printed_after [] lines

take_kept : (n : ℕ) (l k : List ℕ) → take n (take n l ++ k) ≡ take n (l ++ k)
take_kept zero l k = refl
take_kept (suc n) [] k = refl
take_kept (suc n) (x ∷ l) k = ap (λ t. x ∷ t) (take_kept n l k)

starts : Follows [] at_start []
unfolding pieces register_after calls_after printed_after
starts = record { lines = []; rest = []; so_far = refl; line_kept = refl; register_is = refl; text_is = refl }

module _ {input : List ℕ} {s : State} {text : List ℕ} (so : Follows input s text) where
  follows_kept : (b : ℕ) → eqb b 10 ≡ false → Follows (input ++ (b ∷ [])) (longer s b) (text ++ [])
  follows_kept b other = record {
    lines = so.lines;
    rest = so.rest ++ (b ∷ []);
    so_far = piece_longer 10 input (map (λ l. l.bytes) so.lines) so.rest so.so_far b other;
    line_kept = rw so.line_kept (take_kept kept_bytes so.rest (b ∷ []));
    register_is = so.register_is;
    text_is = append-nil text ∙ so.text_is;
  }

  module _ (b : ℕ) (f : List ℕ) (is : eqb b 10 ≡ true) where
    ended_line : LineRead
    ended_line = record { bytes = so.rest; file = f }

    asked : asked_by (said_by s.line) f ≡ asks ended_line
    unfolding ended_line
    asked = ap (λ said. asked_by said f) (ap said_by so.line_kept ∙ kept_says kept_bytes so.rest (omega arith))

    follows_ended : Follows (input ++ (b ∷ [])) (line_ended s f) (text ++ reply_by s.register (asked_by (said_by s.line) f))
    unfolding ended_line history
    follows_ended =
        let cs = calls_after [] so.lines in
        record {
          lines = so.lines ++ (ended_line ∷ []);
          rest = [];
          so_far = piece_ended 10 input (map (λ l. l.bytes) so.lines) so.rest so.so_far b is
              ∙ ap (λ ls. ls ++ ([] ∷ [])) (sym (lines_more so.lines ended_line));
          line_kept = refl;
          register_is = rw (asked, so.register_is) (register_by_lem cs (asks ended_line) ∙ ap register_after (sym (calls_more [] so.lines ended_line)));
          text_is = rw (asked, so.register_is, so.text_is)
              (ap (λ t. printed_after [] so.lines ++ t) (reply_by_lem cs (asks ended_line) ∙ ap (λ es. text_by es (asks ended_line)) (history_after [] so.lines))
              ∙ sym (printed_more [] so.lines ended_line));
        }

  follows_step : (x : Byte) → Follows (input ++ (x.byte ∷ [])) (byte_taken s x) (text ++ printed_by s x)
  unfolding byte_taken printed_by
  follows_step x = go (eqb x.byte 10) refl
    where
      go : (t : Bool) → eqb x.byte 10 ≡ t
          → Follows (input ++ (x.byte ∷ [])) (cond t (line_ended s x.file) (longer s x.byte))
          (text ++ cond t (reply_by s.register (asked_by (said_by s.line) x.file)) [])
      go true is = follows_ended x.byte x.file is
      go false other = follows_kept x.byte other

follows_after : {input : List ℕ} {s : State} {text : List ℕ} (xs : List Byte) → Follows input s text
    → Follows (input ++ map (λ x. x.byte) xs) (after_bytes s xs) (text ++ printed_for s xs)
unfolding after_bytes printed_for
follows_after {input} {text = text} [] so = rw (append-nil input, append-nil text) so
follows_after {input} {s} {text} (x ∷ xs) so =
    rw (append_assoc input (x.byte ∷ []) (map (λ x. x.byte) xs), append_assoc text (printed_by s x) (printed_for (byte_taken s x) xs)) at
    (follows_after {input = input ++ (x.byte ∷ [])} xs (follows_step so x))

-- ---- the theorems

-- Bytes that a desk takes one after the other.
after_append : (s : State) (xs ys : List Byte) → after_bytes s (xs ++ ys) ≡ after_bytes (after_bytes s xs) ys
unfolding after_bytes
after_append s [] ys = refl
after_append s (x ∷ xs) ys = after_append (byte_taken s x) xs ys

printed_append : (s : State) (xs ys : List Byte) → printed_for s (xs ++ ys) ≡ printed_for s xs ++ printed_for (after_bytes s xs) ys
unfolding after_bytes printed_for
printed_append s [] ys = refl
printed_append s (x ∷ xs) ys =
    ap (λ t. printed_by s x ++ t) (printed_append (byte_taken s x) xs ys)
    ∙ sym (append_assoc (printed_by s x) (printed_for (byte_taken s x) xs) (printed_for (after_bytes (byte_taken s x) xs) ys))

bytes_append : (xs ys : List Byte) → map (λ x. x.byte) (xs ++ ys) ≡ map (λ x. x.byte) xs ++ map (λ x. x.byte) ys
bytes_append [] ys = refl
bytes_append (x ∷ xs) ys = ap (λ l. x.byte ∷ l) (bytes_append xs ys)

pub serves_none : (s : State) → Serves s [] s []
unfolding after_bytes printed_for
serves_none s = record { taken = []; as_bytes = refl; leads = refl; prints = refl }

pub serves_then : {s t u : State} {bs cs o p : List ℕ} → Serves s bs t o → Serves t cs u p → Serves s (bs ++ cs) u (o ++ p)
serves_then {s} one two = record {
  taken = one.taken ++ two.taken;
  as_bytes = bytes_append one.taken two.taken ∙ ap₂ ◌++◌ one.as_bytes two.as_bytes;
  leads = after_append s one.taken two.taken ∙ ap (λ t. after_bytes t two.taken) one.leads ∙ two.leads;
  prints = printed_append s one.taken two.taken
      ∙ ap₂ ◌++◌ one.prints (ap (λ t. printed_for t two.taken) one.leads ∙ two.prints);
}

pub serves_byte : (t : State) (x : Byte) → Serves t (x.byte ∷ []) (byte_taken t x) (printed_by t x)
unfolding after_bytes printed_for
serves_byte t x = record { taken = x ∷ []; as_bytes = refl; leads = refl; prints = append-nil (printed_by t x) }

-- In whatever pieces the bytes come, they are served as one.
pub pieces_as_one : {s u : State} {ps : List (List ℕ)} {o : List ℕ} → ServesPieces s ps u o → Serves s (flatten ps) u o
unfolding flatten
pieces_as_one {s} no_piece = serves_none s
pieces_as_one (one_piece first others) = serves_then first (pieces_as_one others)

-- What a desk prints of an input and a line end after it is what the script prints of the input.
pub desk_prints : (input : List ℕ) {t : State} {text : List ℕ} → Serves at_start (input ++ (10 ∷ [])) t text → Prints input text
desk_prints input served =
    let so = follows_after served.taken starts in
    record {
      lines = so.lines;
      of_input = last_off (map (λ l. l.bytes) so.lines) (pieces 10 input) so.rest [] (sym so.so_far ∙ ap (pieces 10) served.as_bytes ∙ pieces_closed 10 input refl);
      printed = sym served.prints ∙ so.text_is;
    }

-- The same in whatever pieces the input came.
flatten_last : (ps : List (List ℕ)) (q : List ℕ) → flatten (ps ++ (q ∷ [])) ≡ flatten ps ++ q
unfolding flatten
flatten_last [] q = append-nil q
flatten_last (p ∷ ps) q = ap (λ l. p ++ l) (flatten_last ps q) ∙ sym (append_assoc p (flatten ps) q)

pub pieces_printed : (ps : List (List ℕ)) {t : State} {text : List ℕ} → ServesPieces at_start (ps ++ ((10 ∷ []) ∷ [])) t text → Prints (flatten ps) text
pieces_printed ps {t} {text} served = desk_prints (flatten ps) (subst (λ l. Serves at_start l t text) (flatten_last ps (10 ∷ [])) (pieces_as_one served))

-- The reply to a line that says a call is that of a register after the calls that the lines before it say; of these the mission holds.
printed_lines : (es : List Event) (ls ms : List LineRead) → printed_after es (ls ++ ms) ≡ printed_after es ls ++ printed_after (events_after es ls) ms
unfolding printed_after events_after
printed_lines es [] ms = refl
printed_lines es (k ∷ ls) ms =
    ap (λ t. text_by es (asks k) ++ t) (printed_lines (events_by es (asks k)) ls ms)
    ∙ sym (append_assoc (text_by es (asks k)) (printed_after (events_by es (asks k)) ls) (printed_after (events_after (events_by es (asks k)) ls) ms))

pub reply_in_its_place : (ls : List LineRead) (l : LineRead) (c : Call) (ms : List LineRead) → asks l ≡ call c
    → printed_after [] (ls ++ (l ∷ ms))
    ≡ printed_after [] ls ++ (reply_line (reply_to (calls_after [] ls) c) ++ printed_after (history (c ∷ calls_after [] ls)) ms)
unfolding printed_after history
reply_in_its_place ls l c ms is =
    printed_lines [] ls (l ∷ ms)
    ∙ ap (λ es. printed_after [] ls ++ (text_by es (asks l) ++ printed_after (events_by es (asks l)) ms)) (sym (history_after [] ls))
    ∙ rw (is, ← as_plain_pair (calls_after [] ls) c)

-- The mission holds of the calls that the lines of any script say.
pub script_mission : (ls : List LineRead) → Mission (calls_after [] ls)
script_mission ls = mission (calls_after [] ls)
