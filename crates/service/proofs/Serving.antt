-- A desk through a piece of input: what holds after each byte.
use Prim.Native.Nat.{ℕ, ◌+◌, ◌*◌, ◌/◌, ◌≤◌, ◌<◌, min}
use native.Mathlib.Numerals.{add-one}
use native.Mathlib.Omega.{arith}
use mathlib.Core.Bool.{Bool, true, false, cond}
use mathlib.Core.List.{List, [], ◌∷◌, ◌++◌, append-nil}
use mathlib.Core.Path.{◌≡◌, refl, sym, ap, ◌∙◌}
use lib.Dec.{eqb, ltb, leb}
use borrow.Author.Tests.{ltb-true, ltb-false, leb-true, leb-false}
use lib.ListN.{length, take, set, get_or, length-set}
use lib.Seq.{take_all, take-suc, take-suc-set, take-append-le, length-take-le}
use Rattle.text.specs.Clauses.{Put}
use Rattle.questions.specs.declared.View.{View}
use Rattle.register.specs.declared.Register.{Register}
use Rattle.register.specs.Questions.{lists_of, view_of}
use Rattle.said.specs.declared.Said.{Said}
use Rattle.said.specs.Said.{said_by}
use Rattle.replies.specs.declared.Response.{Response}
use Rattle.replies.specs.Clauses.{reply_room, text_of}
use Rattle.script.specs.declared.Responded.{Responded}
use Rattle.script.specs.Clauses.{may_change, answered_from}
use Rattle.script.proofs.Responses.{changed_register, changed_text, kept_register, kept_text}
use Rattle.script.specs.Script.{asked_by}
use Rattle.script.specs.Serving.{kept_bytes, State, Byte, register_by, reply_by, byte_taken, printed_by, Serves}
use Rattle.service.specs.Clauses.{kept_count, kept_line, Performed}
use Rattle.script.proofs.Printing.{serves_none, serves_then, serves_byte}

-- The state of a desk in the code's own values.
abbrev pub state_by : Register → List ℕ → ℕ → State
state_by r line k = record { register = r; line = take k line }

-- After i bytes of a piece, of which n are taken, from the state s on.
pub record Serving (s : State) (piece : List ℕ) (n room : ℕ) (out : List ℕ) (r : Register) (v : View) (lists : List (List ℕ)) (line : List ℕ) (k at i : ℕ) : Type 0 where
  pub to : i ≤ n
  pub few : n ≤ length piece
  pub roomy : n * reply_room ≤ room
  pub same_room : length out ≡ room
  pub most : at ≤ reply_room * i
  pub line_size : length line ≡ kept_bytes
  pub line_most : k ≤ kept_bytes
  pub seen : v ≡ view_of r
  pub listed : lists ≡ lists_of r
  pub so : Serves s (take i piece) (state_by r line k) (take at out)

module _ {s : State} {piece : List ℕ} {n room : ℕ} {out : List ℕ} {r : Register} {v : View} {lists : List (List ℕ)} {line : List ℕ} {k at i : ℕ}
    (now : Serving s piece n room out r v lists line k at i) (turn : i < n) where
  -- One byte more.
  one_more : (x : Byte) (t : State) (o : List ℕ) → x.byte ≡ get_or piece i 0 → byte_taken (state_by r line k) x ≡ t → take at out ++ printed_by (state_by r line k) x ≡ o
      → Serves s (take (i + 1) piece) t o
  one_more x t o is leads prints =
      let inside : i < length piece = omega (arith, now.few) in
      let longer : take (i + 1) piece ≡ take i piece ++ (x.byte ∷ []) = rw (add-one, is) (take-suc piece i 0 inside) in
      rw (longer, ← leads, ← prints) (serves_then now.so (serves_byte (state_by r line k) x))

  -- There is room for one reply more.
  pub reply_fits : at + reply_room ≤ length out
  reply_fits = omega (arith, now.roomy, now.most, now.same_room)

  -- The end of a line.
  pub serving_ended : {b at' : ℕ} {out' t : List ℕ} {said : Said} (f : List ℕ) {r' : Register} {v' : View} {lists' : List (List ℕ)} → b ≡ get_or piece i 0 → eqb b 10 ≡ true
      → said ≡ said_by (take k line) → r' ≡ register_by r (asked_by said f) → t ≡ reply_by r (asked_by said f)
      → Put out out' at at' t × (at' ≤ at + reply_room) → v' ≡ view_of r' → lists' ≡ lists_of r' → Serving s piece n room out' r' v' lists' line 0 at' (i + 1)
  unfolding byte_taken printed_by
  serving_ended {b} {at'} {out'} {t} {said} f {r'} {v'} is end says after text (put, fits) seen listed =
      record {
        to = omega arith;
        few = now.few;
        roomy = now.roomy;
        same_room = put.size ∙ now.same_room;
        most = omega (arith, now.most);
        line_size = now.line_size;
        line_most = omega arith;
        seen = seen;
        listed = listed;
        so = one_more (record { byte = b; file = f }) (state_by r' line 0) (take at' out') is (rw (end, after, says)) (rw (end, put.puts, text, says));
      }

  -- One that may change the register, and one that does not.
  pub serving_changed : {b at' : ℕ} {out' : List ℕ} {said : Said} {x : Responded} {v' : View} {lists' : List (List ℕ)} → b ≡ get_or piece i 0 → eqb b 10 ≡ true → said ≡ said_by (take k line)
      → may_change said ≡ true → Performed r said x → v' ≡ view_of x.register → lists' ≡ lists_of x.register → Put out out' at at' (text_of x.response) × (at' ≤ at + reply_room)
      → Serving s piece n room out' x.register v' lists' line 0 at' (i + 1)
  serving_changed {said = said} is end says may done seen listed put =
      serving_ended done.file is end says
      (ap (λ y. y.register) done.is ∙ changed_register r said done.file may)
      (ap (λ y. text_of y.response) done.is ∙ changed_text r said done.file may)
      put seen listed

  pub serving_answered : {b at' : ℕ} {out' : List ℕ} {said : Said} {x : Response} → b ≡ get_or piece i 0 → eqb b 10 ≡ true → said ≡ said_by (take k line)
      → may_change said ≡ false → x ≡ answered_from v.shown v.bytes lists said
      → Put out out' at at' (text_of x) × (at' ≤ at + reply_room) → Serving s piece n room out' r v lists line 0 at' (i + 1)
  serving_answered {said = said} {x} is end says keeps answers put =
      serving_ended [] is end says (kept_register r said [] keeps) (rw answers (kept_text r said [] now.seen now.listed keeps)) put now.seen now.listed

  -- A byte of a line that is kept, and one that is not.
  pub serving_kept : {b : ℕ} {line' : List ℕ} → b ≡ get_or piece i 0 → eqb b 10 ≡ false → k < kept_bytes → line' ≡ set line k b
      → Serving s piece n room out r v lists line' (k + 1) at (i + 1)
  unfolding byte_taken printed_by
  serving_kept {b} {line'} is other less put =
      let size = now.line_size in
      let longer : take (k + 1) (set line k b) ≡ take k line ++ (b ∷ []) = rw add-one (take-suc-set line k b (omega arith)) in
      let all : length (take (k + 1) (set line k b)) ≤ kept_bytes = rw (length-take-le (k + 1) (set line k b) (rw length-set (omega arith))) (omega arith) in
      record {
        to = omega arith;
        few = now.few;
        roomy = now.roomy;
        same_room = now.same_room;
        most = omega (arith, now.most);
        line_size = rw (put, length-set) now.line_size;
        line_most = omega arith;
        seen = now.seen;
        listed = now.listed;
        so = one_more (record { byte = b; file = [] }) (state_by r line' (k + 1)) (take at out) is
            (rw (other, put, longer) (ap (λ l. record { register = r; line = l }) (take_all kept_bytes _ (rw longer at all)))) (rw other (append-nil (take at out)));
      }

  pub serving_full : {b : ℕ} → b ≡ get_or piece i 0 → eqb b 10 ≡ false → kept_bytes ≤ k → Serving s piece n room out r v lists line k at (i + 1)
  unfolding byte_taken printed_by
  serving_full {b} is other full =
      let size = now.line_size in
      let whole : k ≡ kept_bytes = omega (arith, now.line_most) in
      let long : kept_bytes ≤ length (take k line) = rw (length-take-le k line (omega arith)) full in
      record {
        to = omega arith;
        few = now.few;
        roomy = now.roomy;
        same_room = now.same_room;
        most = omega (arith, now.most);
        line_size = now.line_size;
        line_most = now.line_most;
        seen = now.seen;
        listed = now.listed;
        so = one_more (record { byte = b; file = [] }) (state_by r line k) (take at out) is
            (rw other (ap (λ l. record { register = r; line = l })
            (take-append-le kept_bytes (take k line) (b ∷ []) long ∙ take_all kept_bytes (take k line) (omega (arith, length-take-le k line (omega arith))))))
            (rw other (append-nil (take at out)));
      }

  -- Either, as the code keeps bytes.
  pub serving_pushed : {b k' : ℕ} {line' : List ℕ} → b ≡ get_or piece i 0 → eqb b 10 ≡ false → k' ≡ kept_count k → line' ≡ kept_line line k b
      → Serving s piece n room out r v lists line' k' at (i + 1)
  serving_pushed {b} {k'} {line'} is other count put = go (ltb k kept_bytes) refl count put
    where
      go : (t : Bool) → ltb k kept_bytes ≡ t → k' ≡ cond t (k + 1) k → line' ≡ cond t (set line k b) line → Serving s piece n room out r v lists line' k' at (i + 1)
      go true less count put = rw count (serving_kept is other (ltb-true k kept_bytes less) put)
      go false full count put = rw (count, put) (serving_full is other (ltb-false k kept_bytes full))

-- Before the first byte, from the kept bytes of a desk.
pub serving_none : {piece out : List ℕ} {r : Register} {v : View} {lists : List (List ℕ)} {line : List ℕ} {n k : ℕ} → n ≡ min (length piece) (length out / reply_room) → length line ≡ kept_bytes
    → k ≤ kept_bytes → v ≡ view_of r → lists ≡ lists_of r → Serving (state_by r line k) piece n (length out) out r v lists line k 0 0
serving_none {piece} {out} {r} {line = line} {n = n} {k = k} is size most seen listed =
    record {
      to = omega arith;
      few = omega arith;
      roomy = omega arith;
      same_room = refl;
      most = omega arith;
      line_size = size;
      line_most = most;
      seen = seen;
      listed = listed;
      so = serves_none (state_by r line k);
    }

-- After the last byte: no more bytes of a desk's line are there than are kept.
kept_least : (l : List ℕ) (k : ℕ) → length l ≡ kept_bytes → take (min k kept_bytes) l ≡ take k l
kept_least l k size = go (leb k kept_bytes) refl
  where
    go : (t : Bool) → leb k kept_bytes ≡ t → take (min k kept_bytes) l ≡ take k l
    go true le = let less : min k kept_bytes ≡ k = omega (arith, leb-true k kept_bytes le) in rw less
    go false gt =
        let more : min k kept_bytes ≡ kept_bytes = omega (arith, leb-false k kept_bytes gt) in
        rw more (take_all kept_bytes l (omega arith) ∙ sym (take_all k l (omega (arith, leb-false k kept_bytes gt))))

module _ {s : State} {piece : List ℕ} {n room : ℕ} {out : List ℕ} {r : Register} {v : View} {lists : List (List ℕ)} {line : List ℕ} {k at i : ℕ}
    (now : Serving s piece n room out r v lists line k at i) (done : n ≤ i) where
  pub printed_fits : at ≤ length out
  printed_fits = omega (arith, now.to, now.most, now.roomy, now.same_room)

  all_served : Serves s (take n piece) (state_by r line k) (take at out)
  all_served = let all : i ≡ n = omega (arith, now.to) in rw all at now.so

pub serving_all : (r₀ : Register) (line₀ : List ℕ) (k₁ : ℕ) {k₀ : ℕ} {piece : List ℕ} {n room : ℕ} {out : List ℕ} {r : Register} {v : View} {lists : List (List ℕ)} {line : List ℕ} {k at i : ℕ}
    → k₀ ≡ min k₁ kept_bytes → length line₀ ≡ kept_bytes → Serving (state_by r₀ line₀ k₀) piece n room out r v lists line k at i → n ≤ i
    → Serves (state_by r₀ line₀ k₁) (take n piece) (state_by r line k) (take at out)
serving_all r₀ line₀ k₁ is size now done = rw (is, kept_least line₀ k₁ size) at (all_served now done)
