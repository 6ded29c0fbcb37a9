-- Lines and counts by a register's answers, entry by entry, are those by its replies.
use Prim.Native.Nat.{ℕ, ◌+◌, ◌*◌, ◌/◌, ◌%◌, ◌≤◌}
use native.Mathlib.Nat.{div-add-mod'}
use mathlib.Core.Bool.{Bool, cond}
use mathlib.Core.List.{List, []}
use mathlib.Core.Path.{◌≡◌, ap, ◌∙◌}
use lib.ListN.{length, get_or}
use Rattle.text.specs.Clauses.{Put}
use Rattle.text.proofs.Puts.{put_then}
use Rattle.walks.proofs.Lists.{each_cong}
use Rattle.walks.specs.Order.{entry_at, entries_in, rows_in, by_entry}
use Rattle.ppda.specs.Equations.{Vector, entries, Same}
use Rattle.walks.proofs.Places.{row_of_lem}
use Rattle.model.specs.Records.{records_of, states_of, symbols_of}
use Rattle.model.specs.declared.sizes.Sizes.{Sizes}
use Rattle.model.specs.Sizes.{sizes_of}
use Rattle.model.specs.Clauses.{Fits}
use Rattle.register.specs.declared.Register.{Register}
use Rattle.calls.specs.Answers.{Answer}
use Rattle.register.specs.Questions.{upper_in, lower_in, margin_in, live_in}
use Rattle.calls.specs.Calls.{Call, Reply, live}
use Rattle.calls.specs.Answers.{answer_reply}
use Rattle.history.specs.Run.{reply_of}
use Rattle.report.specs.declared.Printout.{Printout}
use Rattle.report.specs.Clauses.{room, HoldsText, lines_with}
use Rattle.gaps.specs.Gaps.{gap_of}
use Rattle.gaps.specs.Clauses.{Gaps}
use Rattle.lines.specs.Lines.{table_line, margin_line, chance_line, says_live}
use Rattle.report.specs.Printed.{live_entries, chance_of, chance_at, chance_lines, steps_lines, lines_by, accepted_lines}

module _ (r : Register) (p z q : ℕ) {a : Answer} {t : Bool} (is : a ≡ live_in r p z q) (said : t ≡ says_live (answer_reply a)) where
  -- Whether an entry is live.
  pub live_said : t ≡ says_live (reply_of r (live p z q))
  unfolding reply_of
  live_said = said ∙ ap (λ a. says_live (answer_reply a)) is

  -- Its line.
  pub chance_said : (gap : ℕ) {l u : Answer} → l ≡ lower_in r p z q → u ≡ upper_in r p z q
      → cond t (chance_line p z q (answer_reply l) (answer_reply u) gap) [] ≡ chance_of (reply_of r) p z q gap
  unfolding chance_of reply_of
  chance_said gap is-l is-u = rw (said, is, is-l, is-u)

-- Entry number e is the entry at place e.
pub entry_number : (s g e : ℕ) → by_entry s g (entry_at s g) e ≡ e
entry_number s g e = ap (λ k. k * s + e % s) (div-add-mod' (e / s) g) ∙ div-add-mod' e s

pub chance_by_number : (ask : Call → Reply) (l : List ℕ) (s g e : ℕ) {t : List ℕ}
    → t ≡ chance_of ask (e / s / g) (e / s % g) (e % s) (get_or l e 0) → t ≡ by_entry s g (chance_at ask (entries s g l)) e
chance_by_number ask l s g e is = is ∙ rw entry_number

-- A printout whose text starts at byte 0 of a buffer.
pub put_holds : {a t : List ℕ} {r : Printout} → length a ≡ room → Put a r.bytes 0 r.length t → r.length ≤ room → HoldsText r t
put_holds size p fits = record { size = p.size ∙ size; fits = fits; holds = p.puts }

-- ---- all lines

-- The same numbers, the same lines.
chances_same : (ask : Call → Reply) {s g : ℕ} (v u : Vector) → Fits s g → Same s g v u → chance_lines ask v s g ≡ chance_lines ask u s g
unfolding chance_lines
chances_same ask {s} {g} v u fits same =
    each_cong _ _ (entries_in s g) (λ e l.
    let (hr, hq, is-entry) = row_of_lem (rows_in s g) s e fits.some_states l in
    let (hp, hz, is_row) = row_of_lem s g (e / s) fits.some_symbols hr in
    ap (chance_of ask (e / s / g) (e / s % g) (e % s)) (same _ _ _ hp hz hq))

-- All lines, where the sizes and u − f(u) are those of the files.
pub lines_said : (r : Register) (b d l : List ℕ) {n : Sizes} {records : ℕ} → n ≡ sizes_of b → Fits n.states n.symbols
    → records ≡ records_of b → Gaps b (sizes_of b) d l → lines_with r records l n ≡ accepted_lines (reply_of r) b d
unfolding lines_by
lines_said r b d l is fits is-records gaps =
    let same = chances_same (reply_of r) (entries (states_of b) (symbols_of b) l) (gap_of b d) (rw is at fits) gaps in
    rw (is-records, is, same)

-- The line of the sizes, of the margin, the lines of the live entries and of the rows, one after the other.
pub lines_put : (r : Register) (v : Vector) (s g n : ℕ) {alive : ℕ} {m : Answer} {a b c d e : List ℕ} {at i j k end : ℕ}
    → alive ≡ live_entries (reply_of r) s g → m ≡ margin_in r → Put a b at i (table_line s g n alive) → Put b c i j (margin_line (answer_reply m))
    → Put c d j k (chance_lines (reply_of r) v s g) → Put d e k end (steps_lines (reply_of r) s g) → Put a e at end (lines_by (reply_of r) n v s g)
unfolding lines_by reply_of
lines_put r v s g n is-alive is_m table margin chances steps =
    rw (← is-alive, ← is_m) (put_then table (put_then margin (put_then chances steps)))
