-- Lines as they are printed, byte by byte: the words, the spaces, decimal numbers of every length, `-` and signs. They hold the definitions of numbers and
-- lines to document 01's printout, to the far ends of refusals and to the greatest numbers of 64 bits.
use Rattle.std.specs.Prelude.{ℕ, List, [], ◌∷◌, pos, negsuc}
use Rattle.calls.specs.Calls.{value, refusal}
use Rattle.lines.specs.Lines.{table_line, margin_line, chance_line, steps_line, refused_line}

-- A line and its bytes.
pub record Line : Type 0 where
  pub made : List ℕ
  pub bytes : List ℕ

abbrev pub made_of : Line → List ℕ
made_of l = l.made

abbrev pub bytes_of : Line → List ℕ
bytes_of l = l.bytes

abbrev pub prints : List ℕ → List ℕ → Line
prints l b = record { made = l; bytes = b }

abbrev pub lines : List Line
lines =
    -- table 2 1 4 3
    prints (table_line 2 1 4 3) (116 ∷ 97 ∷ 98 ∷ 108 ∷ 101 ∷ 32 ∷ 50 ∷ 32 ∷ 49 ∷ 32 ∷ 52 ∷ 32 ∷ 51 ∷ 10 ∷ [])
    -- table 8 16 1024 1024
    ∷ prints (table_line 8 16 1024 1024) (116 ∷ 97 ∷ 98 ∷ 108 ∷ 101 ∷ 32 ∷ 56 ∷ 32 ∷ 49 ∷ 54 ∷ 32 ∷ 49 ∷ 48 ∷ 50 ∷ 52 ∷ 32 ∷ 49 ∷ 48 ∷ 50 ∷ 52 ∷ 10 ∷ [])
    -- margin 45875
    ∷ prints (margin_line (value 45875)) (109 ∷ 97 ∷ 114 ∷ 103 ∷ 105 ∷ 110 ∷ 32 ∷ 52 ∷ 53 ∷ 56 ∷ 55 ∷ 53 ∷ 10 ∷ [])
    -- margin 1048576
    ∷ prints (margin_line (value 1048576)) (109 ∷ 97 ∷ 114 ∷ 103 ∷ 105 ∷ 110 ∷ 32 ∷ 49 ∷ 48 ∷ 52 ∷ 56 ∷ 53 ∷ 55 ∷ 54 ∷ 10 ∷ [])
    -- margin 0
    ∷ prints (margin_line (value 0)) (109 ∷ 97 ∷ 114 ∷ 103 ∷ 105 ∷ 110 ∷ 32 ∷ 48 ∷ 10 ∷ [])
    -- margin -
    ∷ prints (margin_line (refusal 43)) (109 ∷ 97 ∷ 114 ∷ 103 ∷ 105 ∷ 110 ∷ 32 ∷ 45 ∷ 10 ∷ [])
    -- chance 0 0 1 393216 524288 2251799813685248
    ∷ prints (chance_line 0 0 1 (value 393216) (value 524288) 2251799813685248) (99 ∷ 104 ∷ 97 ∷ 110 ∷ 99 ∷ 101 ∷ 32 ∷ 48 ∷ 32 ∷ 48 ∷ 32 ∷ 49 ∷ 32 ∷ 51 ∷ 57 ∷ 51 ∷ 50 ∷ 49 ∷ 54 ∷ 32 ∷ 53 ∷ 50 ∷ 52 ∷ 50 ∷ 56 ∷ 56 ∷ 32 ∷ 50 ∷ 50 ∷ 53 ∷ 49 ∷ 55 ∷ 57 ∷ 57 ∷ 56 ∷ 49 ∷ 51 ∷ 54 ∷ 56 ∷ 53 ∷ 50 ∷ 52 ∷ 56 ∷ 10 ∷ [])
    -- chance 7 15 6 - 2097152 144115188075855872
    ∷ prints (chance_line 7 15 6 (refusal 43) (value 2097152) 144115188075855872) (99 ∷ 104 ∷ 97 ∷ 110 ∷ 99 ∷ 101 ∷ 32 ∷ 55 ∷ 32 ∷ 49 ∷ 53 ∷ 32 ∷ 54 ∷ 32 ∷ 45 ∷ 32 ∷ 50 ∷ 48 ∷ 57 ∷ 55 ∷ 49 ∷ 53 ∷ 50 ∷ 32 ∷ 49 ∷ 52 ∷ 52 ∷ 49 ∷ 49 ∷ 53 ∷ 49 ∷ 56 ∷ 56 ∷ 48 ∷ 55 ∷ 53 ∷ 56 ∷ 53 ∷ 53 ∷ 56 ∷ 55 ∷ 50 ∷ 10 ∷ [])
    -- steps 0 0 512
    ∷ prints (steps_line 0 0 512) (115 ∷ 116 ∷ 101 ∷ 112 ∷ 115 ∷ 32 ∷ 48 ∷ 32 ∷ 48 ∷ 32 ∷ 53 ∷ 49 ∷ 50 ∷ 10 ∷ [])
    -- steps 7 15 4194304
    ∷ prints (steps_line 7 15 4194304) (115 ∷ 116 ∷ 101 ∷ 112 ∷ 115 ∷ 32 ∷ 55 ∷ 32 ∷ 49 ∷ 53 ∷ 32 ∷ 52 ∷ 49 ∷ 57 ∷ 52 ∷ 51 ∷ 48 ∷ 52 ∷ 10 ∷ [])
    -- steps 0 0 18446744073709551615
    ∷ prints (steps_line 0 0 18446744073709551615) (115 ∷ 116 ∷ 101 ∷ 112 ∷ 115 ∷ 32 ∷ 48 ∷ 32 ∷ 48 ∷ 32 ∷ 49 ∷ 56 ∷ 52 ∷ 52 ∷ 54 ∷ 55 ∷ 52 ∷ 52 ∷ 48 ∷ 55 ∷ 51 ∷ 55 ∷ 48 ∷ 57 ∷ 53 ∷ 53 ∷ 49 ∷ 54 ∷ 49 ∷ 53 ∷ 10 ∷ [])
    -- refused 10 0 0
    ∷ prints (refused_line 10 0 (pos 0)) (114 ∷ 101 ∷ 102 ∷ 117 ∷ 115 ∷ 101 ∷ 100 ∷ 32 ∷ 49 ∷ 48 ∷ 32 ∷ 48 ∷ 32 ∷ 48 ∷ 10 ∷ [])
    -- refused 24 1 -30064771072
    ∷ prints (refused_line 24 1 (negsuc 30064771071)) (114 ∷ 101 ∷ 102 ∷ 117 ∷ 115 ∷ 101 ∷ 100 ∷ 32 ∷ 50 ∷ 52 ∷ 32 ∷ 49 ∷ 32 ∷ 45 ∷ 51 ∷ 48 ∷ 48 ∷ 54 ∷ 52 ∷ 55 ∷ 55 ∷ 49 ∷ 48 ∷ 55 ∷ 50 ∷ 10 ∷ [])
    -- refused 27 2175 -68719476736
    ∷ prints (refused_line 27 2175 (negsuc 68719476735)) (114 ∷ 101 ∷ 102 ∷ 117 ∷ 115 ∷ 101 ∷ 100 ∷ 32 ∷ 50 ∷ 55 ∷ 32 ∷ 50 ∷ 49 ∷ 55 ∷ 53 ∷ 32 ∷ 45 ∷ 54 ∷ 56 ∷ 55 ∷ 49 ∷ 57 ∷ 52 ∷ 55 ∷ 54 ∷ 55 ∷ 51 ∷ 54 ∷ 10 ∷ [])
    -- refused 24 0 -2161447445672755200
    ∷ prints (refused_line 24 0 (negsuc 2161447445672755199)) (114 ∷ 101 ∷ 102 ∷ 117 ∷ 115 ∷ 101 ∷ 100 ∷ 32 ∷ 50 ∷ 52 ∷ 32 ∷ 48 ∷ 32 ∷ 45 ∷ 50 ∷ 49 ∷ 54 ∷ 49 ∷ 52 ∷ 52 ∷ 55 ∷ 52 ∷ 52 ∷ 53 ∷ 54 ∷ 55 ∷ 50 ∷ 55 ∷ 53 ∷ 53 ∷ 50 ∷ 48 ∷ 48 ∷ 10 ∷ [])
    -- refused 24 0 -9223372036854775808
    ∷ prints (refused_line 24 0 (negsuc 9223372036854775807)) (114 ∷ 101 ∷ 102 ∷ 117 ∷ 115 ∷ 101 ∷ 100 ∷ 32 ∷ 50 ∷ 52 ∷ 32 ∷ 48 ∷ 32 ∷ 45 ∷ 57 ∷ 50 ∷ 50 ∷ 51 ∷ 51 ∷ 55 ∷ 50 ∷ 48 ∷ 51 ∷ 54 ∷ 56 ∷ 53 ∷ 52 ∷ 55 ∷ 55 ∷ 53 ∷ 56 ∷ 48 ∷ 56 ∷ 10 ∷ [])
    ∷ []
