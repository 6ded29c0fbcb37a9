-- The reply lines of a desk, byte by byte: every reply, numbers of one digit and of twenty, signs, and the line for what says no call. They hold the
-- definitions to the table of replies in docs/RULES.md.
use Rattle.std.specs.Prelude.{ℕ, List, [], ◌∷◌, negsuc}
use Rattle.calls.specs.Calls.{cleared, accepted, known, new, value, refused, refusal}
use Rattle.replies.specs.Replies.{reply_line, unclear_line}

-- A line and its bytes.
pub record Line : Type 0 where
  pub made : List ℕ
  pub bytes : List ℕ

abbrev pub made_of : Line → List ℕ
made_of l = l.made

abbrev pub bytes_of : Line → List ℕ
bytes_of l = l.bytes

abbrev pub prints : List ℕ → List ℕ → Line
prints l b = record { made = l; bytes = b }

abbrev pub lines : List Line
lines =
    -- cleared
    prints (reply_line cleared) (99 ∷ 108 ∷ 101 ∷ 97 ∷ 114 ∷ 101 ∷ 100 ∷ 10 ∷ [])
    -- accepted
    ∷ prints (reply_line accepted) (97 ∷ 99 ∷ 99 ∷ 101 ∷ 112 ∷ 116 ∷ 101 ∷ 100 ∷ 10 ∷ [])
    -- known
    ∷ prints (reply_line known) (107 ∷ 110 ∷ 111 ∷ 119 ∷ 110 ∷ 10 ∷ [])
    -- new
    ∷ prints (reply_line new) (110 ∷ 101 ∷ 119 ∷ 10 ∷ [])
    -- value 0
    ∷ prints (reply_line (value 0)) (118 ∷ 97 ∷ 108 ∷ 117 ∷ 101 ∷ 32 ∷ 48 ∷ 10 ∷ [])
    -- value 45875
    ∷ prints (reply_line (value 45875)) (118 ∷ 97 ∷ 108 ∷ 117 ∷ 101 ∷ 32 ∷ 52 ∷ 53 ∷ 56 ∷ 55 ∷ 53 ∷ 10 ∷ [])
    -- value 18446744073709551615
    ∷ prints (reply_line (value 18446744073709551615)) (118 ∷ 97 ∷ 108 ∷ 117 ∷ 101 ∷ 32 ∷ 49 ∷ 56 ∷ 52 ∷ 52 ∷ 54 ∷ 55 ∷ 52 ∷ 52 ∷ 48 ∷ 55 ∷ 51 ∷ 55 ∷ 48 ∷ 57 ∷ 53 ∷ 53 ∷ 49 ∷ 54 ∷ 49 ∷ 53 ∷ 10 ∷ [])
    -- refused 10 0 0
    ∷ prints (reply_line (refusal 10)) (114 ∷ 101 ∷ 102 ∷ 117 ∷ 115 ∷ 101 ∷ 100 ∷ 32 ∷ 49 ∷ 48 ∷ 32 ∷ 48 ∷ 32 ∷ 48 ∷ 10 ∷ [])
    -- refused 24 1 -30064771072
    ∷ prints (reply_line (refused 24 1 (negsuc 30064771071))) (114 ∷ 101 ∷ 102 ∷ 117 ∷ 115 ∷ 101 ∷ 100 ∷ 32 ∷ 50 ∷ 52 ∷ 32 ∷ 49 ∷ 32 ∷ 45 ∷ 51 ∷ 48 ∷ 48 ∷ 54 ∷ 52 ∷ 55 ∷ 55 ∷ 49 ∷ 48 ∷ 55 ∷ 50 ∷ 10 ∷ [])
    -- refused 27 2175 -68719476736
    ∷ prints (reply_line (refused 27 2175 (negsuc 68719476735))) (114 ∷ 101 ∷ 102 ∷ 117 ∷ 115 ∷ 101 ∷ 100 ∷ 32 ∷ 50 ∷ 55 ∷ 32 ∷ 50 ∷ 49 ∷ 55 ∷ 53 ∷ 32 ∷ 45 ∷ 54 ∷ 56 ∷ 55 ∷ 49 ∷ 57 ∷ 52 ∷ 55 ∷ 54 ∷ 55 ∷ 51 ∷ 54 ∷ 10 ∷ [])
    -- refused 43 0 0
    ∷ prints (reply_line (refusal 43)) (114 ∷ 101 ∷ 102 ∷ 117 ∷ 115 ∷ 101 ∷ 100 ∷ 32 ∷ 52 ∷ 51 ∷ 32 ∷ 48 ∷ 32 ∷ 48 ∷ 10 ∷ [])
    -- refused 45 0 0
    ∷ prints (reply_line (refusal 45)) (114 ∷ 101 ∷ 102 ∷ 117 ∷ 115 ∷ 101 ∷ 100 ∷ 32 ∷ 52 ∷ 53 ∷ 32 ∷ 48 ∷ 32 ∷ 48 ∷ 10 ∷ [])
    -- unclear
    ∷ prints unclear_line (117 ∷ 110 ∷ 99 ∷ 108 ∷ 101 ∷ 97 ∷ 114 ∷ 10 ∷ [])
    ∷ []
