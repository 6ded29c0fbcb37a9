-- The line of each reply (docs/RULES.md, "The desk"), in ASCII, with its end (10).
use Rattle.std.specs.Prelude.{ℕ, List, [], ◌∷◌, ◌++◌}
use Rattle.text.specs.Decimal.{decimal}
use Rattle.text.specs.Texts.{fields}
use Rattle.lines.specs.Lines.{refused_line}
use Rattle.calls.specs.Calls.{Reply, cleared, accepted, known, new, value, refused}

-- "cleared", "accepted", "known", "new", "value", "unclear".
abbrev pub cleared_word : List ℕ
cleared_word = 99 ∷ 108 ∷ 101 ∷ 97 ∷ 114 ∷ 101 ∷ 100 ∷ []

abbrev pub accepted_word : List ℕ
accepted_word = 97 ∷ 99 ∷ 99 ∷ 101 ∷ 112 ∷ 116 ∷ 101 ∷ 100 ∷ []

abbrev pub known_word : List ℕ
known_word = 107 ∷ 110 ∷ 111 ∷ 119 ∷ 110 ∷ []

abbrev pub new_word : List ℕ
new_word = 110 ∷ 101 ∷ 119 ∷ []

abbrev pub value_word : List ℕ
value_word = 118 ∷ 97 ∷ 108 ∷ 117 ∷ 101 ∷ []

abbrev pub unclear_word : List ℕ
unclear_word = 117 ∷ 110 ∷ 99 ∷ 108 ∷ 101 ∷ 97 ∷ 114 ∷ []

-- The line of a reply: `cleared`, `accepted`, `known`, `new`, `value N` or `refused NUMBER PLACE SHORTFALL`.
abbrev pub reply_line : Reply → List ℕ
reply_line cleared = cleared_word ++ fields []
reply_line accepted = accepted_word ++ fields []
reply_line known = known_word ++ fields []
reply_line new = new_word ++ fields []
reply_line (value n) = value_word ++ fields (decimal n ∷ [])
reply_line (refused n i k) = refused_line n i k

-- The line for what says no call.
abbrev pub unclear_line : List ℕ
unclear_line = unclear_word ++ fields []
