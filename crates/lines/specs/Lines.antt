-- Lines that the program prints (document 01, "Model W, and what the program prints"), and what they show of a register's replies.
use Rattle.std.specs.Prelude.{ℕ, Bool, false, List, [], ◌∷◌, ◌++◌, ℤ}
use Rattle.ppda.specs.Live.{is_live}
use Rattle.text.specs.Decimal.{decimal, signed}
use Rattle.text.specs.Texts.{fields}
use Rattle.calls.specs.Calls.{Reply, cleared, accepted, known, new, value, refused}

-- What a field shows of a reply: its number, or `-` where the register has no number to show.
abbrev pub shown : Reply → List ℕ
shown (value n) = decimal n
shown cleared = 45 ∷ []
shown accepted = 45 ∷ []
shown known = 45 ∷ []
shown new = 45 ∷ []
shown (refused n i k) = 45 ∷ []

-- The words that lines begin with: "table", "margin", "chance", "steps", "refused".
abbrev pub table_word : List ℕ
table_word = 116 ∷ 97 ∷ 98 ∷ 108 ∷ 101 ∷ []

abbrev pub margin_word : List ℕ
margin_word = 109 ∷ 97 ∷ 114 ∷ 103 ∷ 105 ∷ 110 ∷ []

abbrev pub chance_word : List ℕ
chance_word = 99 ∷ 104 ∷ 97 ∷ 110 ∷ 99 ∷ 101 ∷ []

abbrev pub steps_word : List ℕ
steps_word = 115 ∷ 116 ∷ 101 ∷ 112 ∷ 115 ∷ []

abbrev pub refused_word : List ℕ
refused_word = 114 ∷ 101 ∷ 102 ∷ 117 ∷ 115 ∷ 101 ∷ 100 ∷ []

-- States, symbols, records, live entries.
abbrev pub table_line : ℕ → ℕ → ℕ → ℕ → List ℕ
table_line s g n alive = table_word ++ fields (decimal s ∷ decimal g ∷ decimal n ∷ decimal alive ∷ [])

-- The margin.
abbrev pub margin_line : Reply → List ℕ
margin_line m = margin_word ++ fields (shown m ∷ [])

-- p, Z, q, the lower, the upper, and u − f(u).
abbrev pub chance_line : ℕ → ℕ → ℕ → Reply → Reply → ℕ → List ℕ
chance_line p z q l u gap = chance_word ++ fields (decimal p ∷ decimal z ∷ decimal q ∷ shown l ∷ shown u ∷ decimal gap ∷ [])

-- p, Z and the mean steps.
abbrev pub steps_line : ℕ → ℕ → ℕ → List ℕ
steps_line p z r = steps_word ++ fields (decimal p ∷ decimal z ∷ decimal r ∷ [])

-- Number, place, shortfall.
abbrev pub refused_line : ℕ → ℕ → ℤ → List ℕ
refused_line n i k = refused_word ++ fields (decimal n ∷ decimal i ∷ signed k ∷ [])

-- Whether the reply to a question on a live mark says that the entry is live.
abbrev pub says_live : Reply → Bool
says_live (value n) = is_live n
says_live cleared = false
says_live accepted = false
says_live known = false
says_live new = false
says_live (refused n i k) = false

-- The line of a row, if there are mean steps.
abbrev pub steps_by : ℕ → ℕ → Reply → List ℕ
steps_by p z (value r) = steps_line p z r
steps_by p z cleared = []
steps_by p z accepted = []
steps_by p z known = []
steps_by p z new = []
steps_by p z (refused n i k) = []
