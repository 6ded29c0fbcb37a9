-- What the program prints of two files (document 01, "Model W, and what the program prints"), from the replies of a register in which they were
-- filed.
use Rattle.std.specs.Prelude.{ℕ, cond, List, [], ◌∷◌, ◌++◌}
use Rattle.walks.specs.Lists.{each}
use Rattle.walks.specs.Sums.{bit, sum_to}
use Rattle.walks.specs.Order.{rows_in, entries_in, by_row, by_entry}
use Rattle.ppda.specs.Equations.{Vector}
use Rattle.model.specs.Records.{records_of, states_of, symbols_of}
use Rattle.calls.specs.Calls.{Call, file_model, file_delivery, upper, lower, mean_steps, margin, live, Reply, cleared, accepted, known, new, value, refused}
use Rattle.history.specs.Run.{reply_to}
use Rattle.gaps.specs.Gaps.{gap_of}
use Rattle.lines.specs.Lines.{table_line, margin_line, chance_line, refused_line, says_live, steps_by}

-- ---- what is printed of accepted files

-- Whether an entry is live, as a number, and how many entries are, by the replies that `ask` gives.
abbrev pub live_at : (Call → Reply) → ℕ → ℕ → ℕ → ℕ
live_at ask p z q = bit (says_live (ask (live p z q)))

unfoldable pub live_entries : (Call → Reply) → ℕ → ℕ → ℕ
live_entries ask s g = sum_to (by_entry s g (live_at ask)) (entries_in s g)

-- The line of an entry with the given u − f(u), if it is live.
unfoldable pub chance_of : (Call → Reply) → ℕ → ℕ → ℕ → ℕ → List ℕ
chance_of ask p z q gap =
    cond (says_live (ask (live p z q))) (chance_line p z q (ask (lower p z q)) (ask (upper p z q)) gap) []

abbrev pub chance_at : (Call → Reply) → Vector → ℕ → ℕ → ℕ → List ℕ
chance_at ask gap p z q = chance_of ask p z q (gap p z q)

-- The lines of the live entries, in file order.
unfoldable pub chance_lines : (Call → Reply) → Vector → ℕ → ℕ → List ℕ
chance_lines ask gap s g = each (entries_in s g) (by_entry s g (chance_at ask gap))

-- The line of a row, if there are mean steps.
abbrev pub steps_at : (Call → Reply) → ℕ → ℕ → List ℕ
steps_at ask p z = steps_by p z (ask (mean_steps p z))

-- The lines of the rows, in file order.
unfoldable pub steps_lines : (Call → Reply) → ℕ → ℕ → List ℕ
steps_lines ask s g = each (rows_in s g) (by_row g (steps_at ask))

-- All lines of a model with s states, g symbols and n records, with u − f(u) by `gap`.
unfoldable pub lines_by : (Call → Reply) → ℕ → Vector → ℕ → ℕ → List ℕ
lines_by ask n gap s g =
    table_line s g n (live_entries ask s g) ++ (margin_line (ask margin) ++ (chance_lines ask gap s g ++ steps_lines ask s g))

-- All lines of accepted files.
abbrev pub accepted_lines : (Call → Reply) → List ℕ → List ℕ → List ℕ
accepted_lines ask b d = lines_by ask (records_of b) (gap_of b d) (states_of b) (symbols_of b)

-- ---- what is printed

-- A refused filing prints one line and ends it.
abbrev pub unless_refused : Reply → List ℕ → List ℕ
unless_refused (refused n i k) more = refused_line n i k
unless_refused cleared more = more
unless_refused accepted more = more
unless_refused known more = more
unless_refused new more = more
unless_refused (value n) more = more

-- What is printed of the files b and d: b is filed in an empty register as a model, then d as a delivery. (Calls stand latest first.)
unfoldable pub printed : List ℕ → List ℕ → List ℕ
printed b d =
    unless_refused (reply_to [] (file_model b))
    (unless_refused (reply_to (file_model b ∷ []) (file_delivery d))
    (accepted_lines (reply_to (file_delivery d ∷ file_model b ∷ [])) b d))
