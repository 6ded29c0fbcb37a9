-- What a line of a script says: a call, no call, or nothing that wants a reply (docs/RULES.md, "The desk"). A line stands here without its end.
use Rattle.std.specs.Prelude.{ℕ, Bool, true, cond, ◌&&◌, List, [], ◌∷◌, eqb}
use Rattle.text.specs.Reading.{pieces, number_in}
use Rattle.spelling.specs.Spelling.{same, is_plain, is_number, is_file}
use Rattle.calls.specs.declared.Question.{Question}
use Rattle.calls.specs.declared.Question.TheVariants.{Upper, Lower, MeanSteps, Margin, Live, Within}
use Rattle.said.specs.declared.Change.TheVariants.{Clear, Model, Counter, Delivery, Merge}
use Rattle.said.specs.declared.Said.{Said}
use Rattle.said.specs.declared.Said.TheVariants as Says
use Rattle.said.specs.declared.Said.TheVariants.{Nothing, Unclear}

-- A line that gets no reply: an empty one, or one that starts with `#` (35).
unfoldable pub is_silent : List ℕ → Bool
is_silent [] = true
is_silent (x ∷ xs) = eqb x 35

-- ---- the words after the first

-- No words.
abbrev pub alone : Said → List (List ℕ) → Said
alone call [] = call
alone call (w ∷ ws) = Unclear

-- One word that names a file.
abbrev pub on_file : Said → List (List ℕ) → Said
on_file call ws = cond (is_file ws) call Unclear

-- Two numbers, p and Z, of a question.
abbrev pub on_row : (ℕ → ℕ → Question) → List (List ℕ) → Said
on_row ask [] = Unclear
on_row ask (p ∷ []) = Unclear
on_row ask (p ∷ z ∷ []) = cond (is_number p && is_number z) (Says.Question (ask (number_in p) (number_in z))) Unclear
on_row ask (p ∷ z ∷ w ∷ ws) = Unclear

-- Three numbers, p, Z and q, of a question.
abbrev pub on_entry : (ℕ → ℕ → ℕ → Question) → List (List ℕ) → Said
on_entry ask [] = Unclear
on_entry ask (p ∷ []) = Unclear
on_entry ask (p ∷ z ∷ []) = Unclear
on_entry ask (p ∷ z ∷ q ∷ []) = cond (is_number p && (is_number z && is_number q)) (Says.Question (ask (number_in p) (number_in z) (number_in q))) Unclear
on_entry ask (p ∷ z ∷ q ∷ w ∷ ws) = Unclear

-- Four numbers, n, p, Z and q, of a question on runs of at most n steps (request A.1).
abbrev pub on_steps : (ℕ → ℕ → ℕ → ℕ → Question) → List (List ℕ) → Said
on_steps ask [] = Unclear
on_steps ask (n ∷ []) = Unclear
on_steps ask (n ∷ p ∷ []) = Unclear
on_steps ask (n ∷ p ∷ z ∷ []) = Unclear
on_steps ask (n ∷ p ∷ z ∷ q ∷ []) =
    cond (is_number n && (is_number p && (is_number z && is_number q)))
    (Says.Question (ask (number_in n) (number_in p) (number_in z) (number_in q))) Unclear
on_steps ask (n ∷ p ∷ z ∷ q ∷ w ∷ ws) = Unclear

-- ---- the calls by their first words

-- "clear", "model", "counter", "delivery", "merge", "upper", "lower", "steps", "margin", "live", "within".
abbrev pub clear_word : List ℕ
clear_word = 99 ∷ 108 ∷ 101 ∷ 97 ∷ 114 ∷ []

abbrev pub model_word : List ℕ
model_word = 109 ∷ 111 ∷ 100 ∷ 101 ∷ 108 ∷ []

abbrev pub counter_word : List ℕ
counter_word = 99 ∷ 111 ∷ 117 ∷ 110 ∷ 116 ∷ 101 ∷ 114 ∷ []

abbrev pub delivery_word : List ℕ
delivery_word = 100 ∷ 101 ∷ 108 ∷ 105 ∷ 118 ∷ 101 ∷ 114 ∷ 121 ∷ []

abbrev pub merge_word : List ℕ
merge_word = 109 ∷ 101 ∷ 114 ∷ 103 ∷ 101 ∷ []

abbrev pub upper_word : List ℕ
upper_word = 117 ∷ 112 ∷ 112 ∷ 101 ∷ 114 ∷ []

abbrev pub lower_word : List ℕ
lower_word = 108 ∷ 111 ∷ 119 ∷ 101 ∷ 114 ∷ []

abbrev pub steps_word : List ℕ
steps_word = 115 ∷ 116 ∷ 101 ∷ 112 ∷ 115 ∷ []

abbrev pub margin_word : List ℕ
margin_word = 109 ∷ 97 ∷ 114 ∷ 103 ∷ 105 ∷ 110 ∷ []

abbrev pub live_word : List ℕ
live_word = 108 ∷ 105 ∷ 118 ∷ 101 ∷ []

abbrev pub within_word : List ℕ
within_word = 119 ∷ 105 ∷ 116 ∷ 104 ∷ 105 ∷ 110 ∷ []

-- What a first word and the words after it say.
unfoldable pub by_word : List ℕ → List (List ℕ) → Said
by_word w ws =
    cond (same w clear_word) (alone (Says.Change Clear) ws)
    (cond (same w model_word) (on_file (Says.Change Model) ws)
    (cond (same w counter_word) (on_file (Says.Change Counter) ws)
    (cond (same w delivery_word) (on_file (Says.Change Delivery) ws)
    (cond (same w merge_word) (on_file (Says.Change Merge) ws)
    (cond (same w upper_word) (on_entry Upper ws)
    (cond (same w lower_word) (on_entry Lower ws)
    (cond (same w steps_word) (on_row MeanSteps ws)
    (cond (same w margin_word) (alone (Says.Question Margin) ws)
    (cond (same w live_word) (on_entry Live ws)
    (cond (same w within_word) (on_steps Within ws) Unclear))))))))))

-- What the words of a line say. (A line has at least one word, an empty one at least.)
abbrev pub by_words : List (List ℕ) → Said
by_words [] = Unclear
by_words (w ∷ ws) = by_word w ws

-- What a line says. Its words are what stands between spaces (32).
unfoldable pub said_by : List ℕ → Said
said_by line = cond (is_silent line) Nothing (cond (is_plain line) (by_words (pieces 32 line)) Unclear)
