-- The room that lines take, and what a line of an entry is made of.
use Rattle.std.specs.Prelude.{ℕ, ◌+◌, ◌*◌, cond, List, []}
use Rattle.calls.specs.Answers.{answer_reply}
use Rattle.lines.specs.declared.Chance.{Chance}
use Rattle.lines.specs.Lines.{chance_line}

-- The most bytes of a line: its word, its fields, each a space and at most 20 digits (21 with a sign), and its end.
abbrev pub table_room : ℕ
table_room = 5 + 4 * 21 + 1

abbrev pub margin_room : ℕ
margin_room = 6 + 21 + 1

abbrev pub refused_room : ℕ
refused_room = 7 + 2 * 21 + 22 + 1

abbrev pub chance_room : ℕ
chance_room = 6 + 6 * 21 + 1

abbrev pub steps_room : ℕ
steps_room = 5 + 3 * 21 + 1

-- The line of what was asked about an entry, if it is live.
abbrev pub chance_text : Chance → List ℕ
chance_text c = cond c.live (chance_line c.p c.z c.q (answer_reply c.lower) (answer_reply c.upper) c.gap) []
