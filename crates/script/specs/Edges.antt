-- Whole scripts: each line with the bytes of the file that it names, and what is printed for it, byte by byte. They hold the definitions to docs/RULES.md,
-- "The desk". The files are those of the edges of crate certificate.
use Rattle.std.specs.Prelude.{ℕ, Bool, true, false, List, [], ◌∷◌, ◌++◌, map, ◌≡◌}
use Rattle.text.specs.Reading.{pieces}
use Rattle.model.specs.W.{w_file}
use Rattle.certificate.specs.Edges.{one_rule, w_delivery}
use Rattle.counter.specs.Made.{counter_record}
use Rattle.counter.specs.Edges.{queue_file}
use Rattle.calls.specs.declared.Question.TheVariants.{Margin}
use Rattle.said.specs.declared.Change.TheVariants.{Clear, Model, Counter, Delivery, Merge}
use Rattle.said.specs.declared.Said.{Said}
use Rattle.said.specs.declared.Said.TheVariants.{Nothing, Unclear, Change, Question}
use Rattle.script.specs.Script.{LineRead, reads_file, printed_after}

-- A line with its end (10), the bytes of the file that it names (any, where it names none), and what is printed for it.
pub record Row : Type 0 where
  pub line : List ℕ
  pub file : List ℕ
  pub reply : List ℕ

abbrev pub row : List ℕ → List ℕ → List ℕ → Row
row l f t = record { line = l; file = f; reply = t }

-- The input, the files in the order of its lines, and what is printed.
abbrev pub input_of : List Row → List ℕ
input_of [] = []
input_of (r ∷ rs) = r.line ++ input_of rs

abbrev pub files_of : List Row → List (List ℕ)
files_of rs = map (λ r. r.file) rs

abbrev pub replies_of : List Row → List ℕ
replies_of [] = []
replies_of (r ∷ rs) = r.reply ++ replies_of rs

-- Lines, each with its file. A line for which there is none left, as the empty one after the last line end, names an empty one.
abbrev pub with_files : List (List ℕ) → List (List ℕ) → List LineRead
with_files [] fs = []
with_files (l ∷ ls) [] = record { bytes = l; file = [] } ∷ with_files ls []
with_files (l ∷ ls) (f ∷ fs) = record { bytes = l; file = f } ∷ with_files ls fs

-- What is printed for the lines of the input is as the rows have it.
abbrev pub Printed : List Row → Type 0
Printed rs = printed_after [] (with_files (pieces 10 (input_of rs)) (files_of rs)) ≡ replies_of rs

-- A model, a line that says no call, which changes nothing, and a question.
abbrev pub short_script : List Row
short_script =
    -- model a: accepted
    row (109 ∷ 111 ∷ 100 ∷ 101 ∷ 108 ∷ 32 ∷ 97 ∷ 10 ∷ []) (one_rule 65536) (97 ∷ 99 ∷ 99 ∷ 101 ∷ 112 ∷ 116 ∷ 101 ∷ 100 ∷ 10 ∷ [])
    -- clear a: unclear
    ∷ row (99 ∷ 108 ∷ 101 ∷ 97 ∷ 114 ∷ 32 ∷ 97 ∷ 10 ∷ []) [] (117 ∷ 110 ∷ 99 ∷ 108 ∷ 101 ∷ 97 ∷ 114 ∷ 10 ∷ [])
    -- live 0 0 0: value 1
    ∷ row (108 ∷ 105 ∷ 118 ∷ 101 ∷ 32 ∷ 48 ∷ 32 ∷ 48 ∷ 32 ∷ 48 ∷ 10 ∷ []) [] (118 ∷ 97 ∷ 108 ∷ 117 ∷ 101 ∷ 32 ∷ 49 ∷ 10 ∷ [])
    ∷ []

-- W: a filing and its questions, those on short runs among them; a delivery filed twice is known; a refused filing, an unclear line, a comment and an empty line change nothing; another delivery
-- is new, and its numbers are shown from then on; clearing. The last line has its end.
abbrev pub w_script : List Row
w_script =
    -- # W and its questions: no reply
    row (35 ∷ 32 ∷ 87 ∷ 32 ∷ 97 ∷ 110 ∷ 100 ∷ 32 ∷ 105 ∷ 116 ∷ 115 ∷ 32 ∷ 113 ∷ 117 ∷ 101 ∷ 115 ∷ 116 ∷ 105 ∷ 111 ∷ 110 ∷ 115 ∷ 10 ∷ []) [] []
    -- model w: accepted
    ∷ row (109 ∷ 111 ∷ 100 ∷ 101 ∷ 108 ∷ 32 ∷ 119 ∷ 10 ∷ []) w_file (97 ∷ 99 ∷ 99 ∷ 101 ∷ 112 ∷ 116 ∷ 101 ∷ 100 ∷ 10 ∷ [])
    -- delivery d: new
    ∷ row (100 ∷ 101 ∷ 108 ∷ 105 ∷ 118 ∷ 101 ∷ 114 ∷ 121 ∷ 32 ∷ 100 ∷ 10 ∷ []) (w_delivery 524288 512) (110 ∷ 101 ∷ 119 ∷ 10 ∷ [])
    -- upper 0 0 1: value 524288
    ∷ row (117 ∷ 112 ∷ 112 ∷ 101 ∷ 114 ∷ 32 ∷ 48 ∷ 32 ∷ 48 ∷ 32 ∷ 49 ∷ 10 ∷ []) [] (118 ∷ 97 ∷ 108 ∷ 117 ∷ 101 ∷ 32 ∷ 53 ∷ 50 ∷ 52 ∷ 50 ∷ 56 ∷ 56 ∷ 10 ∷ [])
    -- lower 0 0 1: value 393216
    ∷ row (108 ∷ 111 ∷ 119 ∷ 101 ∷ 114 ∷ 32 ∷ 48 ∷ 32 ∷ 48 ∷ 32 ∷ 49 ∷ 10 ∷ []) [] (118 ∷ 97 ∷ 108 ∷ 117 ∷ 101 ∷ 32 ∷ 51 ∷ 57 ∷ 51 ∷ 50 ∷ 49 ∷ 54 ∷ 10 ∷ [])
    -- steps 0 0: value 512
    ∷ row (115 ∷ 116 ∷ 101 ∷ 112 ∷ 115 ∷ 32 ∷ 48 ∷ 32 ∷ 48 ∷ 10 ∷ []) [] (118 ∷ 97 ∷ 108 ∷ 117 ∷ 101 ∷ 32 ∷ 53 ∷ 49 ∷ 50 ∷ 10 ∷ [])
    -- margin: value 45875
    ∷ row (109 ∷ 97 ∷ 114 ∷ 103 ∷ 105 ∷ 110 ∷ 10 ∷ []) [] (118 ∷ 97 ∷ 108 ∷ 117 ∷ 101 ∷ 32 ∷ 52 ∷ 53 ∷ 56 ∷ 55 ∷ 53 ∷ 10 ∷ [])
    -- upper 1 0 1: value 1179648
    ∷ row (117 ∷ 112 ∷ 112 ∷ 101 ∷ 114 ∷ 32 ∷ 49 ∷ 32 ∷ 48 ∷ 32 ∷ 49 ∷ 10 ∷ []) [] (118 ∷ 97 ∷ 108 ∷ 117 ∷ 101 ∷ 32 ∷ 49 ∷ 49 ∷ 55 ∷ 57 ∷ 54 ∷ 52 ∷ 56 ∷ 10 ∷ [])
    -- lower 1 0 1: value 1048576
    ∷ row (108 ∷ 111 ∷ 119 ∷ 101 ∷ 114 ∷ 32 ∷ 49 ∷ 32 ∷ 48 ∷ 32 ∷ 49 ∷ 10 ∷ []) [] (118 ∷ 97 ∷ 108 ∷ 117 ∷ 101 ∷ 32 ∷ 49 ∷ 48 ∷ 52 ∷ 56 ∷ 53 ∷ 55 ∷ 54 ∷ 10 ∷ [])
    -- steps 1 0: value 256
    ∷ row (115 ∷ 116 ∷ 101 ∷ 112 ∷ 115 ∷ 32 ∷ 49 ∷ 32 ∷ 48 ∷ 10 ∷ []) [] (118 ∷ 97 ∷ 108 ∷ 117 ∷ 101 ∷ 32 ∷ 50 ∷ 53 ∷ 54 ∷ 10 ∷ [])
    -- live 1 0 1: value 1
    ∷ row (108 ∷ 105 ∷ 118 ∷ 101 ∷ 32 ∷ 49 ∷ 32 ∷ 48 ∷ 32 ∷ 49 ∷ 10 ∷ []) [] (118 ∷ 97 ∷ 108 ∷ 117 ∷ 101 ∷ 32 ∷ 49 ∷ 10 ∷ [])
    -- live 1 0 0: value 0
    ∷ row (108 ∷ 105 ∷ 118 ∷ 101 ∷ 32 ∷ 49 ∷ 32 ∷ 48 ∷ 32 ∷ 48 ∷ 10 ∷ []) [] (118 ∷ 97 ∷ 108 ∷ 117 ∷ 101 ∷ 32 ∷ 48 ∷ 10 ∷ [])
    -- within 3 0 0 0: value 158329674399744
    ∷ row (119 ∷ 105 ∷ 116 ∷ 104 ∷ 105 ∷ 110 ∷ 32 ∷ 51 ∷ 32 ∷ 48 ∷ 32 ∷ 48 ∷ 32 ∷ 48 ∷ 10 ∷ []) [] (118 ∷ 97 ∷ 108 ∷ 117 ∷ 101 ∷ 32 ∷ 49 ∷ 53 ∷ 56 ∷ 51 ∷ 50 ∷ 57 ∷ 54 ∷ 55 ∷ 52 ∷ 51 ∷ 57 ∷ 57 ∷ 55 ∷ 52 ∷ 52 ∷ 10 ∷ [])
    -- within 3 0 0 1: value 96757023244288
    ∷ row (119 ∷ 105 ∷ 116 ∷ 104 ∷ 105 ∷ 110 ∷ 32 ∷ 51 ∷ 32 ∷ 48 ∷ 32 ∷ 48 ∷ 32 ∷ 49 ∷ 10 ∷ []) [] (118 ∷ 97 ∷ 108 ∷ 117 ∷ 101 ∷ 32 ∷ 57 ∷ 54 ∷ 55 ∷ 53 ∷ 55 ∷ 48 ∷ 50 ∷ 51 ∷ 50 ∷ 52 ∷ 52 ∷ 50 ∷ 56 ∷ 56 ∷ 10 ∷ [])
    -- within 3 1 0 0: value 0
    ∷ row (119 ∷ 105 ∷ 116 ∷ 104 ∷ 105 ∷ 110 ∷ 32 ∷ 51 ∷ 32 ∷ 49 ∷ 32 ∷ 48 ∷ 32 ∷ 48 ∷ 10 ∷ []) [] (118 ∷ 97 ∷ 108 ∷ 117 ∷ 101 ∷ 32 ∷ 48 ∷ 10 ∷ [])
    -- within 0 0 0 0: value 0
    ∷ row (119 ∷ 105 ∷ 116 ∷ 104 ∷ 105 ∷ 110 ∷ 32 ∷ 48 ∷ 32 ∷ 48 ∷ 32 ∷ 48 ∷ 32 ∷ 48 ∷ 10 ∷ []) [] (118 ∷ 97 ∷ 108 ∷ 117 ∷ 101 ∷ 32 ∷ 48 ∷ 10 ∷ [])
    -- within 4 0 0 2: refused 44 0 0
    ∷ row (119 ∷ 105 ∷ 116 ∷ 104 ∷ 105 ∷ 110 ∷ 32 ∷ 52 ∷ 32 ∷ 48 ∷ 32 ∷ 48 ∷ 32 ∷ 50 ∷ 10 ∷ []) [] (114 ∷ 101 ∷ 102 ∷ 117 ∷ 115 ∷ 101 ∷ 100 ∷ 32 ∷ 52 ∷ 52 ∷ 32 ∷ 48 ∷ 32 ∷ 48 ∷ 10 ∷ [])
    -- within 4 0 0 0: refused 45 0 0
    ∷ row (119 ∷ 105 ∷ 116 ∷ 104 ∷ 105 ∷ 110 ∷ 32 ∷ 52 ∷ 32 ∷ 48 ∷ 32 ∷ 48 ∷ 32 ∷ 48 ∷ 10 ∷ []) [] (114 ∷ 101 ∷ 102 ∷ 117 ∷ 115 ∷ 101 ∷ 100 ∷ 32 ∷ 52 ∷ 53 ∷ 32 ∷ 48 ∷ 32 ∷ 48 ∷ 10 ∷ [])
    -- delivery d: known
    ∷ row (100 ∷ 101 ∷ 108 ∷ 105 ∷ 118 ∷ 101 ∷ 114 ∷ 121 ∷ 32 ∷ 100 ∷ 10 ∷ []) (w_delivery 524288 512) (107 ∷ 110 ∷ 111 ∷ 119 ∷ 110 ∷ 10 ∷ [])
    -- an empty line: no reply
    ∷ row (10 ∷ []) [] []
    -- delivery b: refused 24 1 -30064771072
    ∷ row (100 ∷ 101 ∷ 108 ∷ 105 ∷ 118 ∷ 101 ∷ 114 ∷ 121 ∷ 32 ∷ 98 ∷ 10 ∷ []) (w_delivery 466033 512) (114 ∷ 101 ∷ 102 ∷ 117 ∷ 115 ∷ 101 ∷ 100 ∷ 32 ∷ 50 ∷ 52 ∷ 32 ∷ 49 ∷ 32 ∷ 45 ∷ 51 ∷ 48 ∷ 48 ∷ 54 ∷ 52 ∷ 55 ∷ 55 ∷ 49 ∷ 48 ∷ 55 ∷ 50 ∷ 10 ∷ [])
    -- upper 0 0 1: value 524288
    ∷ row (117 ∷ 112 ∷ 112 ∷ 101 ∷ 114 ∷ 32 ∷ 48 ∷ 32 ∷ 48 ∷ 32 ∷ 49 ∷ 10 ∷ []) [] (118 ∷ 97 ∷ 108 ∷ 117 ∷ 101 ∷ 32 ∷ 53 ∷ 50 ∷ 52 ∷ 50 ∷ 56 ∷ 56 ∷ 10 ∷ [])
    -- upper 0 0: unclear
    ∷ row (117 ∷ 112 ∷ 112 ∷ 101 ∷ 114 ∷ 32 ∷ 48 ∷ 32 ∷ 48 ∷ 10 ∷ []) [] (117 ∷ 110 ∷ 99 ∷ 108 ∷ 101 ∷ 97 ∷ 114 ∷ 10 ∷ [])
    -- upper 0 0 1: value 524288
    ∷ row (117 ∷ 112 ∷ 112 ∷ 101 ∷ 114 ∷ 32 ∷ 48 ∷ 32 ∷ 48 ∷ 32 ∷ 49 ∷ 10 ∷ []) [] (118 ∷ 97 ∷ 108 ∷ 117 ∷ 101 ∷ 32 ∷ 53 ∷ 50 ∷ 52 ∷ 50 ∷ 56 ∷ 56 ∷ 10 ∷ [])
    -- delivery e: new
    ∷ row (100 ∷ 101 ∷ 108 ∷ 105 ∷ 118 ∷ 101 ∷ 114 ∷ 121 ∷ 32 ∷ 101 ∷ 10 ∷ []) (w_delivery 466034 512) (110 ∷ 101 ∷ 119 ∷ 10 ∷ [])
    -- upper 0 0 1: value 466034
    ∷ row (117 ∷ 112 ∷ 112 ∷ 101 ∷ 114 ∷ 32 ∷ 48 ∷ 32 ∷ 48 ∷ 32 ∷ 49 ∷ 10 ∷ []) [] (118 ∷ 97 ∷ 108 ∷ 117 ∷ 101 ∷ 32 ∷ 52 ∷ 54 ∷ 54 ∷ 48 ∷ 51 ∷ 52 ∷ 10 ∷ [])
    -- upper 0 0 9: refused 44 0 0
    ∷ row (117 ∷ 112 ∷ 112 ∷ 101 ∷ 114 ∷ 32 ∷ 48 ∷ 32 ∷ 48 ∷ 32 ∷ 57 ∷ 10 ∷ []) [] (114 ∷ 101 ∷ 102 ∷ 117 ∷ 115 ∷ 101 ∷ 100 ∷ 32 ∷ 52 ∷ 52 ∷ 32 ∷ 48 ∷ 32 ∷ 48 ∷ 10 ∷ [])
    -- delivery x: refused 20 0 0
    ∷ row (100 ∷ 101 ∷ 108 ∷ 105 ∷ 118 ∷ 101 ∷ 114 ∷ 121 ∷ 32 ∷ 120 ∷ 10 ∷ []) [] (114 ∷ 101 ∷ 102 ∷ 117 ∷ 115 ∷ 101 ∷ 100 ∷ 32 ∷ 50 ∷ 48 ∷ 32 ∷ 48 ∷ 32 ∷ 48 ∷ 10 ∷ [])
    -- upper 0 0 1: value 466034
    ∷ row (117 ∷ 112 ∷ 112 ∷ 101 ∷ 114 ∷ 32 ∷ 48 ∷ 32 ∷ 48 ∷ 32 ∷ 49 ∷ 10 ∷ []) [] (118 ∷ 97 ∷ 108 ∷ 117 ∷ 101 ∷ 32 ∷ 52 ∷ 54 ∷ 54 ∷ 48 ∷ 51 ∷ 52 ∷ 10 ∷ [])
    -- clear: cleared
    ∷ row (99 ∷ 108 ∷ 101 ∷ 97 ∷ 114 ∷ 10 ∷ []) [] (99 ∷ 108 ∷ 101 ∷ 97 ∷ 114 ∷ 101 ∷ 100 ∷ 10 ∷ [])
    -- upper 0 0 1: refused 40 0 0
    ∷ row (117 ∷ 112 ∷ 112 ∷ 101 ∷ 114 ∷ 32 ∷ 48 ∷ 32 ∷ 48 ∷ 32 ∷ 49 ∷ 10 ∷ []) [] (114 ∷ 101 ∷ 102 ∷ 117 ∷ 115 ∷ 101 ∷ 100 ∷ 32 ∷ 52 ∷ 48 ∷ 32 ∷ 48 ∷ 32 ∷ 48 ∷ 10 ∷ [])
    -- model w: accepted
    ∷ row (109 ∷ 111 ∷ 100 ∷ 101 ∷ 108 ∷ 32 ∷ 119 ∷ 10 ∷ []) w_file (97 ∷ 99 ∷ 99 ∷ 101 ∷ 112 ∷ 116 ∷ 101 ∷ 100 ∷ 10 ∷ [])
    -- upper 0 0 1: refused 42 0 0
    ∷ row (117 ∷ 112 ∷ 112 ∷ 101 ∷ 114 ∷ 32 ∷ 48 ∷ 32 ∷ 48 ∷ 32 ∷ 49 ∷ 10 ∷ []) [] (114 ∷ 101 ∷ 102 ∷ 117 ∷ 115 ∷ 101 ∷ 100 ∷ 32 ∷ 52 ∷ 50 ∷ 32 ∷ 48 ∷ 32 ∷ 48 ∷ 10 ∷ [])
    -- live 1 0 1: value 1
    ∷ row (108 ∷ 105 ∷ 118 ∷ 101 ∷ 32 ∷ 49 ∷ 32 ∷ 48 ∷ 32 ∷ 49 ∷ 10 ∷ []) [] (118 ∷ 97 ∷ 108 ∷ 117 ∷ 101 ∷ 32 ∷ 49 ∷ 10 ∷ [])
    ∷ []

-- A counter file (request A.2) is filed like a model: refused for its own reasons, accepted, and 41 whatever is named then.
abbrev pub counter_script : List Row
counter_script =
    -- counter c: refused 46 0 0
    row (99 ∷ 111 ∷ 117 ∷ 110 ∷ 116 ∷ 101 ∷ 114 ∷ 32 ∷ 99 ∷ 10 ∷ []) [] (114 ∷ 101 ∷ 102 ∷ 117 ∷ 115 ∷ 101 ∷ 100 ∷ 32 ∷ 52 ∷ 54 ∷ 32 ∷ 48 ∷ 32 ∷ 48 ∷ 10 ∷ [])
    -- counter b: refused 48 1 0
    ∷ row (99 ∷ 111 ∷ 117 ∷ 110 ∷ 116 ∷ 101 ∷ 114 ∷ 32 ∷ 98 ∷ 10 ∷ []) (counter_record 0 1 0 0 65536) (114 ∷ 101 ∷ 102 ∷ 117 ∷ 115 ∷ 101 ∷ 100 ∷ 32 ∷ 52 ∷ 56 ∷ 32 ∷ 49 ∷ 32 ∷ 48 ∷ 10 ∷ [])
    -- live 0 0 0: refused 40 0 0
    ∷ row (108 ∷ 105 ∷ 118 ∷ 101 ∷ 32 ∷ 48 ∷ 32 ∷ 48 ∷ 32 ∷ 48 ∷ 10 ∷ []) [] (114 ∷ 101 ∷ 102 ∷ 117 ∷ 115 ∷ 101 ∷ 100 ∷ 32 ∷ 52 ∷ 48 ∷ 32 ∷ 48 ∷ 32 ∷ 48 ∷ 10 ∷ [])
    -- counter c: accepted
    ∷ row (99 ∷ 111 ∷ 117 ∷ 110 ∷ 116 ∷ 101 ∷ 114 ∷ 32 ∷ 99 ∷ 10 ∷ []) queue_file (97 ∷ 99 ∷ 99 ∷ 101 ∷ 112 ∷ 116 ∷ 101 ∷ 100 ∷ 10 ∷ [])
    -- counter c: refused 41 0 0
    ∷ row (99 ∷ 111 ∷ 117 ∷ 110 ∷ 116 ∷ 101 ∷ 114 ∷ 32 ∷ 99 ∷ 10 ∷ []) [] (114 ∷ 101 ∷ 102 ∷ 117 ∷ 115 ∷ 101 ∷ 100 ∷ 32 ∷ 52 ∷ 49 ∷ 32 ∷ 48 ∷ 32 ∷ 48 ∷ 10 ∷ [])
    -- model w: refused 41 0 0
    ∷ row (109 ∷ 111 ∷ 100 ∷ 101 ∷ 108 ∷ 32 ∷ 119 ∷ 10 ∷ []) [] (114 ∷ 101 ∷ 102 ∷ 117 ∷ 115 ∷ 101 ∷ 100 ∷ 32 ∷ 52 ∷ 49 ∷ 32 ∷ 48 ∷ 32 ∷ 48 ∷ 10 ∷ [])
    -- counter: unclear
    ∷ row (99 ∷ 111 ∷ 117 ∷ 110 ∷ 116 ∷ 101 ∷ 114 ∷ 10 ∷ []) [] (117 ∷ 110 ∷ 99 ∷ 108 ∷ 101 ∷ 97 ∷ 114 ∷ 10 ∷ [])
    -- within 3 0 0 0: value 162727720910848
    ∷ row (119 ∷ 105 ∷ 116 ∷ 104 ∷ 105 ∷ 110 ∷ 32 ∷ 51 ∷ 32 ∷ 48 ∷ 32 ∷ 48 ∷ 32 ∷ 48 ∷ 10 ∷ []) [] (118 ∷ 97 ∷ 108 ∷ 117 ∷ 101 ∷ 32 ∷ 49 ∷ 54 ∷ 50 ∷ 55 ∷ 50 ∷ 55 ∷ 55 ∷ 50 ∷ 48 ∷ 57 ∷ 49 ∷ 48 ∷ 56 ∷ 52 ∷ 56 ∷ 10 ∷ [])
    -- live 0 0 1: value 1
    ∷ row (108 ∷ 105 ∷ 118 ∷ 101 ∷ 32 ∷ 48 ∷ 32 ∷ 48 ∷ 32 ∷ 49 ∷ 10 ∷ []) [] (118 ∷ 97 ∷ 108 ∷ 117 ∷ 101 ∷ 32 ∷ 49 ∷ 10 ∷ [])
    -- clear: cleared
    ∷ row (99 ∷ 108 ∷ 101 ∷ 97 ∷ 114 ∷ 10 ∷ []) [] (99 ∷ 108 ∷ 101 ∷ 97 ∷ 114 ∷ 101 ∷ 100 ∷ 10 ∷ [])
    -- counter c: accepted
    ∷ row (99 ∷ 111 ∷ 117 ∷ 110 ∷ 116 ∷ 101 ∷ 114 ∷ 32 ∷ 99 ∷ 10 ∷ []) queue_file (97 ∷ 99 ∷ 99 ∷ 101 ∷ 112 ∷ 116 ∷ 101 ∷ 100 ∷ 10 ∷ [])
    -- upper 0 0 0: refused 42 0 0
    ∷ row (117 ∷ 112 ∷ 112 ∷ 101 ∷ 114 ∷ 32 ∷ 48 ∷ 32 ∷ 48 ∷ 32 ∷ 48 ∷ 10 ∷ []) [] (114 ∷ 101 ∷ 102 ∷ 117 ∷ 115 ∷ 101 ∷ 100 ∷ 32 ∷ 52 ∷ 50 ∷ 32 ∷ 48 ∷ 32 ∷ 48 ∷ 10 ∷ [])
    ∷ []

-- Where the register refuses by its own reasons, 40 and 41, or no file is named, the bytes of the file, f, can be any. The last line lacks its end.
abbrev pub unread_script : List ℕ → List Row
unread_script f =
    -- delivery d: refused 40 0 0
    row (100 ∷ 101 ∷ 108 ∷ 105 ∷ 118 ∷ 101 ∷ 114 ∷ 121 ∷ 32 ∷ 100 ∷ 10 ∷ []) f (114 ∷ 101 ∷ 102 ∷ 117 ∷ 115 ∷ 101 ∷ 100 ∷ 32 ∷ 52 ∷ 48 ∷ 32 ∷ 48 ∷ 32 ∷ 48 ∷ 10 ∷ [])
    -- merge d: refused 40 0 0
    ∷ row (109 ∷ 101 ∷ 114 ∷ 103 ∷ 101 ∷ 32 ∷ 100 ∷ 10 ∷ []) f (114 ∷ 101 ∷ 102 ∷ 117 ∷ 115 ∷ 101 ∷ 100 ∷ 32 ∷ 52 ∷ 48 ∷ 32 ∷ 48 ∷ 32 ∷ 48 ∷ 10 ∷ [])
    -- model w: accepted
    ∷ row (109 ∷ 111 ∷ 100 ∷ 101 ∷ 108 ∷ 32 ∷ 119 ∷ 10 ∷ []) w_file (97 ∷ 99 ∷ 99 ∷ 101 ∷ 112 ∷ 116 ∷ 101 ∷ 100 ∷ 10 ∷ [])
    -- merge d: refused 42 0 0
    ∷ row (109 ∷ 101 ∷ 114 ∷ 103 ∷ 101 ∷ 32 ∷ 100 ∷ 10 ∷ []) f (114 ∷ 101 ∷ 102 ∷ 117 ∷ 115 ∷ 101 ∷ 100 ∷ 32 ∷ 52 ∷ 50 ∷ 32 ∷ 48 ∷ 32 ∷ 48 ∷ 10 ∷ [])
    -- model w: refused 41 0 0
    ∷ row (109 ∷ 111 ∷ 100 ∷ 101 ∷ 108 ∷ 32 ∷ 119 ∷ 10 ∷ []) f (114 ∷ 101 ∷ 102 ∷ 117 ∷ 115 ∷ 101 ∷ 100 ∷ 32 ∷ 52 ∷ 49 ∷ 32 ∷ 48 ∷ 32 ∷ 48 ∷ 10 ∷ [])
    -- delivery d: new
    ∷ row (100 ∷ 101 ∷ 108 ∷ 105 ∷ 118 ∷ 101 ∷ 114 ∷ 121 ∷ 32 ∷ 100 ∷ 10 ∷ []) (w_delivery 524288 512) (110 ∷ 101 ∷ 119 ∷ 10 ∷ [])
    -- model x: refused 41 0 0
    ∷ row (109 ∷ 111 ∷ 100 ∷ 101 ∷ 108 ∷ 32 ∷ 120 ∷ 10 ∷ []) f (114 ∷ 101 ∷ 102 ∷ 117 ∷ 115 ∷ 101 ∷ 100 ∷ 32 ∷ 52 ∷ 49 ∷ 32 ∷ 48 ∷ 32 ∷ 48 ∷ 10 ∷ [])
    -- margin: value 45875
    ∷ row (109 ∷ 97 ∷ 114 ∷ 103 ∷ 105 ∷ 110 ∷ 10 ∷ []) f (118 ∷ 97 ∷ 108 ∷ 117 ∷ 101 ∷ 32 ∷ 52 ∷ 53 ∷ 56 ∷ 55 ∷ 53 ∷ 10 ∷ [])
    -- delivery x y: unclear
    ∷ row (100 ∷ 101 ∷ 108 ∷ 105 ∷ 118 ∷ 101 ∷ 114 ∷ 121 ∷ 32 ∷ 120 ∷ 32 ∷ 121 ∷ 10 ∷ []) f (117 ∷ 110 ∷ 99 ∷ 108 ∷ 101 ∷ 97 ∷ 114 ∷ 10 ∷ [])
    -- # delivery d: no reply
    ∷ row (35 ∷ 32 ∷ 100 ∷ 101 ∷ 108 ∷ 105 ∷ 118 ∷ 101 ∷ 114 ∷ 121 ∷ 32 ∷ 100 ∷ 10 ∷ []) f []
    -- margin: value 45875
    ∷ row (109 ∷ 97 ∷ 114 ∷ 103 ∷ 105 ∷ 110 ∷ 10 ∷ []) f (118 ∷ 97 ∷ 108 ∷ 117 ∷ 101 ∷ 32 ∷ 52 ∷ 53 ∷ 56 ∷ 55 ∷ 53 ∷ 10 ∷ [])
    -- clear: cleared
    ∷ row (99 ∷ 108 ∷ 101 ∷ 97 ∷ 114 ∷ 10 ∷ []) f (99 ∷ 108 ∷ 101 ∷ 97 ∷ 114 ∷ 101 ∷ 100 ∷ 10 ∷ [])
    -- delivery d: refused 40 0 0
    ∷ row (100 ∷ 101 ∷ 108 ∷ 105 ∷ 118 ∷ 101 ∷ 114 ∷ 121 ∷ 32 ∷ 100 ∷ 10 ∷ []) f (114 ∷ 101 ∷ 102 ∷ 117 ∷ 115 ∷ 101 ∷ 100 ∷ 32 ∷ 52 ∷ 48 ∷ 32 ∷ 48 ∷ 32 ∷ 48 ∷ 10 ∷ [])
    -- margin, without a line end: refused 40 0 0
    ∷ row (109 ∷ 97 ∷ 114 ∷ 103 ∷ 105 ∷ 110 ∷ []) f (114 ∷ 101 ∷ 102 ∷ 117 ∷ 115 ∷ 101 ∷ 100 ∷ 32 ∷ 52 ∷ 48 ∷ 32 ∷ 48 ∷ 32 ∷ 48 ∷ 10 ∷ [])
    ∷ []

-- Lines that say no call, and a last one that is unclear without its end; a missing file counts as empty.
abbrev pub odd_script : List Row
odd_script =
    -- an empty line: no reply
    row (10 ∷ []) [] []
    -- clear and a carriage return: unclear
    ∷ row (99 ∷ 108 ∷ 101 ∷ 97 ∷ 114 ∷ 13 ∷ 10 ∷ []) [] (117 ∷ 110 ∷ 99 ∷ 108 ∷ 101 ∷ 97 ∷ 114 ∷ 10 ∷ [])
    -- a NUL: unclear
    ∷ row (0 ∷ 10 ∷ []) [] (117 ∷ 110 ∷ 99 ∷ 108 ∷ 101 ∷ 97 ∷ 114 ∷ 10 ∷ [])
    -- # and a NUL: no reply
    ∷ row (35 ∷ 0 ∷ 10 ∷ []) [] []
    -- a space: unclear
    ∷ row (32 ∷ 10 ∷ []) [] (117 ∷ 110 ∷ 99 ∷ 108 ∷ 101 ∷ 97 ∷ 114 ∷ 10 ∷ [])
    -- model: unclear
    ∷ row (109 ∷ 111 ∷ 100 ∷ 101 ∷ 108 ∷ 10 ∷ []) [] (117 ∷ 110 ∷ 99 ∷ 108 ∷ 101 ∷ 97 ∷ 114 ∷ 10 ∷ [])
    -- model x: refused 10 0 0
    ∷ row (109 ∷ 111 ∷ 100 ∷ 101 ∷ 108 ∷ 32 ∷ 120 ∷ 10 ∷ []) [] (114 ∷ 101 ∷ 102 ∷ 117 ∷ 115 ∷ 101 ∷ 100 ∷ 32 ∷ 49 ∷ 48 ∷ 32 ∷ 48 ∷ 32 ∷ 48 ∷ 10 ∷ [])
    -- live 0 0 0: refused 40 0 0
    ∷ row (108 ∷ 105 ∷ 118 ∷ 101 ∷ 32 ∷ 48 ∷ 32 ∷ 48 ∷ 32 ∷ 48 ∷ 10 ∷ []) [] (114 ∷ 101 ∷ 102 ∷ 117 ∷ 115 ∷ 101 ∷ 100 ∷ 32 ∷ 52 ∷ 48 ∷ 32 ∷ 48 ∷ 32 ∷ 48 ∷ 10 ∷ [])
    -- clear: cleared
    ∷ row (99 ∷ 108 ∷ 101 ∷ 97 ∷ 114 ∷ 10 ∷ []) [] (99 ∷ 108 ∷ 101 ∷ 97 ∷ 114 ∷ 101 ∷ 100 ∷ 10 ∷ [])
    -- clear and a space, without a line end: unclear
    ∷ row (99 ∷ 108 ∷ 101 ∷ 97 ∷ 114 ∷ 32 ∷ []) [] (117 ∷ 110 ∷ 99 ∷ 108 ∷ 101 ∷ 97 ∷ 114 ∷ 10 ∷ [])
    ∷ []

-- Merging: with itself known, refused as the second delivery is, else new, and the sharper numbers are shown; a merge without a file's name is unclear, and a
-- delivery that is filed after it replaces what was merged.
abbrev pub merge_script : List Row
merge_script =
    -- model w: accepted
    row (109 ∷ 111 ∷ 100 ∷ 101 ∷ 108 ∷ 32 ∷ 119 ∷ 10 ∷ []) w_file (97 ∷ 99 ∷ 99 ∷ 101 ∷ 112 ∷ 116 ∷ 101 ∷ 100 ∷ 10 ∷ [])
    -- delivery d: new
    ∷ row (100 ∷ 101 ∷ 108 ∷ 105 ∷ 118 ∷ 101 ∷ 114 ∷ 121 ∷ 32 ∷ 100 ∷ 10 ∷ []) (w_delivery 524288 512) (110 ∷ 101 ∷ 119 ∷ 10 ∷ [])
    -- merge d: known
    ∷ row (109 ∷ 101 ∷ 114 ∷ 103 ∷ 101 ∷ 32 ∷ 100 ∷ 10 ∷ []) (w_delivery 524288 512) (107 ∷ 110 ∷ 111 ∷ 119 ∷ 110 ∷ 10 ∷ [])
    -- merge d: refused 24 1 -30064771072
    ∷ row (109 ∷ 101 ∷ 114 ∷ 103 ∷ 101 ∷ 32 ∷ 100 ∷ 10 ∷ []) (w_delivery 466033 512) (114 ∷ 101 ∷ 102 ∷ 117 ∷ 115 ∷ 101 ∷ 100 ∷ 32 ∷ 50 ∷ 52 ∷ 32 ∷ 49 ∷ 32 ∷ 45 ∷ 51 ∷ 48 ∷ 48 ∷ 54 ∷ 52 ∷ 55 ∷ 55 ∷ 49 ∷ 48 ∷ 55 ∷ 50 ∷ 10 ∷ [])
    -- upper 0 0 1: value 524288
    ∷ row (117 ∷ 112 ∷ 112 ∷ 101 ∷ 114 ∷ 32 ∷ 48 ∷ 32 ∷ 48 ∷ 32 ∷ 49 ∷ 10 ∷ []) [] (118 ∷ 97 ∷ 108 ∷ 117 ∷ 101 ∷ 32 ∷ 53 ∷ 50 ∷ 52 ∷ 50 ∷ 56 ∷ 56 ∷ 10 ∷ [])
    -- merge e: new
    ∷ row (109 ∷ 101 ∷ 114 ∷ 103 ∷ 101 ∷ 32 ∷ 101 ∷ 10 ∷ []) (w_delivery 466034 486) (110 ∷ 101 ∷ 119 ∷ 10 ∷ [])
    -- upper 0 0 1: value 466034
    ∷ row (117 ∷ 112 ∷ 112 ∷ 101 ∷ 114 ∷ 32 ∷ 48 ∷ 32 ∷ 48 ∷ 32 ∷ 49 ∷ 10 ∷ []) [] (118 ∷ 97 ∷ 108 ∷ 117 ∷ 101 ∷ 32 ∷ 52 ∷ 54 ∷ 54 ∷ 48 ∷ 51 ∷ 52 ∷ 10 ∷ [])
    -- steps 0 0: value 486
    ∷ row (115 ∷ 116 ∷ 101 ∷ 112 ∷ 115 ∷ 32 ∷ 48 ∷ 32 ∷ 48 ∷ 10 ∷ []) [] (118 ∷ 97 ∷ 108 ∷ 117 ∷ 101 ∷ 32 ∷ 52 ∷ 56 ∷ 54 ∷ 10 ∷ [])
    -- merge: unclear
    ∷ row (109 ∷ 101 ∷ 114 ∷ 103 ∷ 101 ∷ 10 ∷ []) [] (117 ∷ 110 ∷ 99 ∷ 108 ∷ 101 ∷ 97 ∷ 114 ∷ 10 ∷ [])
    -- delivery d: new
    ∷ row (100 ∷ 101 ∷ 108 ∷ 105 ∷ 118 ∷ 101 ∷ 114 ∷ 121 ∷ 32 ∷ 100 ∷ 10 ∷ []) (w_delivery 524288 512) (110 ∷ 101 ∷ 119 ∷ 10 ∷ [])
    -- upper 0 0 1: value 524288
    ∷ row (117 ∷ 112 ∷ 112 ∷ 101 ∷ 114 ∷ 32 ∷ 48 ∷ 32 ∷ 48 ∷ 32 ∷ 49 ∷ 10 ∷ []) [] (118 ∷ 97 ∷ 108 ∷ 117 ∷ 101 ∷ 32 ∷ 53 ∷ 50 ∷ 52 ∷ 50 ∷ 56 ∷ 56 ∷ 10 ∷ [])
    ∷ []

-- Whether the file of a line is read, by whether a model and a delivery are held: that of a model or a counter file where no model is, that of a delivery where one
-- is, that of a merge where both are.
pub record Reading : Type 0 where
  pub model : Bool
  pub delivery : Bool
  pub said : Said
  pub reads : Bool

abbrev pub reading : Bool → Bool → Said → Bool → Reading
reading m d s t = record { model = m; delivery = d; said = s; reads = t }

abbrev pub readings : List Reading
readings =
    reading false false (Change Model) true
    ∷ reading true false (Change Model) false
    ∷ reading true true (Change Model) false
    ∷ reading false false (Change Counter) true
    ∷ reading true false (Change Counter) false
    ∷ reading false false (Change Delivery) false
    ∷ reading true false (Change Delivery) true
    ∷ reading true true (Change Delivery) true
    ∷ reading false false (Change Merge) false
    ∷ reading true false (Change Merge) false
    ∷ reading true true (Change Merge) true
    ∷ reading false false (Change Clear) false
    ∷ reading true true (Change Clear) false
    ∷ reading true true (Question Margin) false
    ∷ reading false false Nothing false
    ∷ reading false false Unclear false
    ∷ []

abbrev pub reading_of : Reading → Bool
reading_of r = reads_file r.model r.delivery r.said

abbrev pub reads_of : Reading → Bool
reads_of r = r.reads
