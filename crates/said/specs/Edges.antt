-- Lines byte by byte and what each says: every call, the ends of numbers and of names, spaces, control bytes, and words that are nearly a call's. They hold
-- the definitions to the table of calls in docs/RULES.md.
use Rattle.std.specs.Prelude.{ℕ, List, [], ◌∷◌, replicate}
use Rattle.said.specs.declared.Said.{Said}
use Rattle.calls.specs.declared.Question.TheVariants.{Upper, Lower, MeanSteps, Margin, Live, Within}
use Rattle.said.specs.declared.Change.TheVariants.{Clear, Model, Counter, Delivery, Merge}
use Rattle.said.specs.declared.Said.TheVariants.{Nothing, Unclear, Change, Question}
use Rattle.said.specs.Said.{said_by}

-- A line and what it says.
pub record Line : Type 0 where
  pub bytes : List ℕ
  pub meaning : Said

abbrev pub said_of : Line → Said
said_of l = said_by l.bytes

abbrev pub meaning_of : Line → Said
meaning_of l = l.meaning

abbrev pub says : List ℕ → Said → Line
says b s = record { bytes = b; meaning = s }

abbrev pub lines : List Line
lines =
    -- clear
    says (99 ∷ 108 ∷ 101 ∷ 97 ∷ 114 ∷ []) (Change Clear)
    -- model a
    ∷ says (109 ∷ 111 ∷ 100 ∷ 101 ∷ 108 ∷ 32 ∷ 97 ∷ []) (Change Model)
    -- counter a
    ∷ says (99 ∷ 111 ∷ 117 ∷ 110 ∷ 116 ∷ 101 ∷ 114 ∷ 32 ∷ 97 ∷ []) (Change Counter)
    -- counter
    ∷ says (99 ∷ 111 ∷ 117 ∷ 110 ∷ 116 ∷ 101 ∷ 114 ∷ []) Unclear
    -- counter a b
    ∷ says (99 ∷ 111 ∷ 117 ∷ 110 ∷ 116 ∷ 101 ∷ 114 ∷ 32 ∷ 97 ∷ 32 ∷ 98 ∷ []) Unclear
    -- counters a
    ∷ says (99 ∷ 111 ∷ 117 ∷ 110 ∷ 116 ∷ 101 ∷ 114 ∷ 115 ∷ 32 ∷ 97 ∷ []) Unclear
    -- delivery a
    ∷ says (100 ∷ 101 ∷ 108 ∷ 105 ∷ 118 ∷ 101 ∷ 114 ∷ 121 ∷ 32 ∷ 97 ∷ []) (Change Delivery)
    -- merge a
    ∷ says (109 ∷ 101 ∷ 114 ∷ 103 ∷ 101 ∷ 32 ∷ 97 ∷ []) (Change Merge)
    -- merge
    ∷ says (109 ∷ 101 ∷ 114 ∷ 103 ∷ 101 ∷ []) Unclear
    -- merge a b
    ∷ says (109 ∷ 101 ∷ 114 ∷ 103 ∷ 101 ∷ 32 ∷ 97 ∷ 32 ∷ 98 ∷ []) Unclear
    -- merges a
    ∷ says (109 ∷ 101 ∷ 114 ∷ 103 ∷ 101 ∷ 115 ∷ 32 ∷ 97 ∷ []) Unclear
    -- upper 0 0 0
    ∷ says (117 ∷ 112 ∷ 112 ∷ 101 ∷ 114 ∷ 32 ∷ 48 ∷ 32 ∷ 48 ∷ 32 ∷ 48 ∷ []) (Question (Upper 0 0 0))
    -- lower 1 2 3
    ∷ says (108 ∷ 111 ∷ 119 ∷ 101 ∷ 114 ∷ 32 ∷ 49 ∷ 32 ∷ 50 ∷ 32 ∷ 51 ∷ []) (Question (Lower 1 2 3))
    -- steps 0 0
    ∷ says (115 ∷ 116 ∷ 101 ∷ 112 ∷ 115 ∷ 32 ∷ 48 ∷ 32 ∷ 48 ∷ []) (Question (MeanSteps 0 0))
    -- steps 4 5
    ∷ says (115 ∷ 116 ∷ 101 ∷ 112 ∷ 115 ∷ 32 ∷ 52 ∷ 32 ∷ 53 ∷ []) (Question (MeanSteps 4 5))
    -- margin
    ∷ says (109 ∷ 97 ∷ 114 ∷ 103 ∷ 105 ∷ 110 ∷ []) (Question Margin)
    -- live 7 15 6
    ∷ says (108 ∷ 105 ∷ 118 ∷ 101 ∷ 32 ∷ 55 ∷ 32 ∷ 49 ∷ 53 ∷ 32 ∷ 54 ∷ []) (Question (Live 7 15 6))
    -- upper 000000001 15 7
    ∷ says (117 ∷ 112 ∷ 112 ∷ 101 ∷ 114 ∷ 32 ∷ 48 ∷ 48 ∷ 48 ∷ 48 ∷ 48 ∷ 48 ∷ 48 ∷ 48 ∷ 49 ∷ 32 ∷ 49 ∷ 53 ∷ 32 ∷ 55 ∷ []) (Question (Upper 1 15 7))
    -- lower 123456789 0 987654321
    ∷ says (108 ∷ 111 ∷ 119 ∷ 101 ∷ 114 ∷ 32 ∷ 49 ∷ 50 ∷ 51 ∷ 52 ∷ 53 ∷ 54 ∷ 55 ∷ 56 ∷ 57 ∷ 32 ∷ 48 ∷ 32 ∷ 57 ∷ 56 ∷ 55 ∷ 54 ∷ 53 ∷ 52 ∷ 51 ∷ 50 ∷ 49 ∷ []) (Question (Lower 123456789 0 987654321))
    -- steps 000000007 000000015
    ∷ says (115 ∷ 116 ∷ 101 ∷ 112 ∷ 115 ∷ 32 ∷ 48 ∷ 48 ∷ 48 ∷ 48 ∷ 48 ∷ 48 ∷ 48 ∷ 48 ∷ 55 ∷ 32 ∷ 48 ∷ 48 ∷ 48 ∷ 48 ∷ 48 ∷ 48 ∷ 48 ∷ 49 ∷ 53 ∷ []) (Question (MeanSteps 7 15))
    -- live 999999999 999999999 999999999
    ∷ says (108 ∷ 105 ∷ 118 ∷ 101 ∷ 32 ∷ 57 ∷ 57 ∷ 57 ∷ 57 ∷ 57 ∷ 57 ∷ 57 ∷ 57 ∷ 57 ∷ 32 ∷ 57 ∷ 57 ∷ 57 ∷ 57 ∷ 57 ∷ 57 ∷ 57 ∷ 57 ∷ 57 ∷ 32 ∷ 57 ∷ 57 ∷ 57 ∷ 57 ∷ 57 ∷ 57 ∷ 57 ∷ 57 ∷ 57 ∷ []) (Question (Live 999999999 999999999 999999999))
    -- upper 123 4567 89012
    ∷ says (117 ∷ 112 ∷ 112 ∷ 101 ∷ 114 ∷ 32 ∷ 49 ∷ 50 ∷ 51 ∷ 32 ∷ 52 ∷ 53 ∷ 54 ∷ 55 ∷ 32 ∷ 56 ∷ 57 ∷ 48 ∷ 49 ∷ 50 ∷ []) (Question (Upper 123 4567 89012))
    -- lower 345678 9012345 67890123
    ∷ says (108 ∷ 111 ∷ 119 ∷ 101 ∷ 114 ∷ 32 ∷ 51 ∷ 52 ∷ 53 ∷ 54 ∷ 55 ∷ 56 ∷ 32 ∷ 57 ∷ 48 ∷ 49 ∷ 50 ∷ 51 ∷ 52 ∷ 53 ∷ 32 ∷ 54 ∷ 55 ∷ 56 ∷ 57 ∷ 48 ∷ 49 ∷ 50 ∷ 51 ∷ []) (Question (Lower 345678 9012345 67890123))
    -- steps 10 200
    ∷ says (115 ∷ 116 ∷ 101 ∷ 112 ∷ 115 ∷ 32 ∷ 49 ∷ 48 ∷ 32 ∷ 50 ∷ 48 ∷ 48 ∷ []) (Question (MeanSteps 10 200))
    -- model and a name of every byte that a name may have
    ∷ says (109 ∷ 111 ∷ 100 ∷ 101 ∷ 108 ∷ 32 ∷ 33 ∷ 34 ∷ 35 ∷ 36 ∷ 37 ∷ 38 ∷ 39 ∷ 40 ∷ 41 ∷ 42 ∷ 43 ∷ 44 ∷ 45 ∷ 46 ∷ 47 ∷ 48 ∷ 49 ∷ 50 ∷ 51 ∷ 52 ∷ 53 ∷ 54 ∷ 55 ∷ 56 ∷ 57 ∷ 58 ∷ 59 ∷ 60 ∷ 61 ∷ 62 ∷ 63 ∷ 64 ∷ 65 ∷ 66 ∷ 67 ∷ 68 ∷ 69 ∷ 70 ∷ 71 ∷ 72 ∷ 73 ∷ 74 ∷ 75 ∷ 76 ∷ 77 ∷ 78 ∷ 79 ∷ 80 ∷ 81 ∷ 82 ∷ 83 ∷ 84 ∷ 85 ∷ 86 ∷ 87 ∷ 88 ∷ 89 ∷ 90 ∷ 91 ∷ 92 ∷ 93 ∷ 94 ∷ 95 ∷ 96 ∷ 97 ∷ 98 ∷ 99 ∷ 100 ∷ 101 ∷ 102 ∷ 103 ∷ 104 ∷ 105 ∷ 106 ∷ 107 ∷ 108 ∷ 109 ∷ 110 ∷ 111 ∷ 112 ∷ 113 ∷ 114 ∷ 115 ∷ 116 ∷ 117 ∷ 118 ∷ 119 ∷ 120 ∷ 121 ∷ 122 ∷ 123 ∷ 124 ∷ 125 ∷ 126 ∷ 128 ∷ 129 ∷ 130 ∷ 131 ∷ 132 ∷ 133 ∷ 134 ∷ 135 ∷ 136 ∷ 137 ∷ 138 ∷ 139 ∷ 140 ∷ 141 ∷ 142 ∷ 143 ∷ 144 ∷ 145 ∷ 146 ∷ 147 ∷ 148 ∷ 149 ∷ 150 ∷ 151 ∷ 152 ∷ 153 ∷ 154 ∷ 155 ∷ 156 ∷ 157 ∷ 158 ∷ 159 ∷ 160 ∷ 161 ∷ 162 ∷ 163 ∷ 164 ∷ 165 ∷ 166 ∷ 167 ∷ 168 ∷ 169 ∷ 170 ∷ 171 ∷ 172 ∷ 173 ∷ 174 ∷ 175 ∷ 176 ∷ 177 ∷ 178 ∷ 179 ∷ 180 ∷ 181 ∷ 182 ∷ 183 ∷ 184 ∷ 185 ∷ 186 ∷ 187 ∷ 188 ∷ 189 ∷ 190 ∷ 191 ∷ 192 ∷ 193 ∷ 194 ∷ 195 ∷ 196 ∷ 197 ∷ 198 ∷ 199 ∷ 200 ∷ 201 ∷ 202 ∷ 203 ∷ 204 ∷ 205 ∷ 206 ∷ 207 ∷ 208 ∷ 209 ∷ 210 ∷ 211 ∷ 212 ∷ 213 ∷ 214 ∷ 215 ∷ 216 ∷ 217 ∷ 218 ∷ 219 ∷ 220 ∷ 221 ∷ 222 ∷ 223 ∷ 224 ∷ 225 ∷ 226 ∷ 227 ∷ 228 ∷ 229 ∷ 230 ∷ 231 ∷ 232 ∷ 233 ∷ 234 ∷ 235 ∷ 236 ∷ 237 ∷ 238 ∷ 239 ∷ 240 ∷ 241 ∷ 242 ∷ 243 ∷ 244 ∷ 245 ∷ 246 ∷ 247 ∷ 248 ∷ 249 ∷ 250 ∷ 251 ∷ 252 ∷ 253 ∷ 254 ∷ 255 ∷ []) (Change Model)
    -- delivery and a name of every byte that a name may have
    ∷ says (100 ∷ 101 ∷ 108 ∷ 105 ∷ 118 ∷ 101 ∷ 114 ∷ 121 ∷ 32 ∷ 33 ∷ 34 ∷ 35 ∷ 36 ∷ 37 ∷ 38 ∷ 39 ∷ 40 ∷ 41 ∷ 42 ∷ 43 ∷ 44 ∷ 45 ∷ 46 ∷ 47 ∷ 48 ∷ 49 ∷ 50 ∷ 51 ∷ 52 ∷ 53 ∷ 54 ∷ 55 ∷ 56 ∷ 57 ∷ 58 ∷ 59 ∷ 60 ∷ 61 ∷ 62 ∷ 63 ∷ 64 ∷ 65 ∷ 66 ∷ 67 ∷ 68 ∷ 69 ∷ 70 ∷ 71 ∷ 72 ∷ 73 ∷ 74 ∷ 75 ∷ 76 ∷ 77 ∷ 78 ∷ 79 ∷ 80 ∷ 81 ∷ 82 ∷ 83 ∷ 84 ∷ 85 ∷ 86 ∷ 87 ∷ 88 ∷ 89 ∷ 90 ∷ 91 ∷ 92 ∷ 93 ∷ 94 ∷ 95 ∷ 96 ∷ 97 ∷ 98 ∷ 99 ∷ 100 ∷ 101 ∷ 102 ∷ 103 ∷ 104 ∷ 105 ∷ 106 ∷ 107 ∷ 108 ∷ 109 ∷ 110 ∷ 111 ∷ 112 ∷ 113 ∷ 114 ∷ 115 ∷ 116 ∷ 117 ∷ 118 ∷ 119 ∷ 120 ∷ 121 ∷ 122 ∷ 123 ∷ 124 ∷ 125 ∷ 126 ∷ 128 ∷ 129 ∷ 130 ∷ 131 ∷ 132 ∷ 133 ∷ 134 ∷ 135 ∷ 136 ∷ 137 ∷ 138 ∷ 139 ∷ 140 ∷ 141 ∷ 142 ∷ 143 ∷ 144 ∷ 145 ∷ 146 ∷ 147 ∷ 148 ∷ 149 ∷ 150 ∷ 151 ∷ 152 ∷ 153 ∷ 154 ∷ 155 ∷ 156 ∷ 157 ∷ 158 ∷ 159 ∷ 160 ∷ 161 ∷ 162 ∷ 163 ∷ 164 ∷ 165 ∷ 166 ∷ 167 ∷ 168 ∷ 169 ∷ 170 ∷ 171 ∷ 172 ∷ 173 ∷ 174 ∷ 175 ∷ 176 ∷ 177 ∷ 178 ∷ 179 ∷ 180 ∷ 181 ∷ 182 ∷ 183 ∷ 184 ∷ 185 ∷ 186 ∷ 187 ∷ 188 ∷ 189 ∷ 190 ∷ 191 ∷ 192 ∷ 193 ∷ 194 ∷ 195 ∷ 196 ∷ 197 ∷ 198 ∷ 199 ∷ 200 ∷ 201 ∷ 202 ∷ 203 ∷ 204 ∷ 205 ∷ 206 ∷ 207 ∷ 208 ∷ 209 ∷ 210 ∷ 211 ∷ 212 ∷ 213 ∷ 214 ∷ 215 ∷ 216 ∷ 217 ∷ 218 ∷ 219 ∷ 220 ∷ 221 ∷ 222 ∷ 223 ∷ 224 ∷ 225 ∷ 226 ∷ 227 ∷ 228 ∷ 229 ∷ 230 ∷ 231 ∷ 232 ∷ 233 ∷ 234 ∷ 235 ∷ 236 ∷ 237 ∷ 238 ∷ 239 ∷ 240 ∷ 241 ∷ 242 ∷ 243 ∷ 244 ∷ 245 ∷ 246 ∷ 247 ∷ 248 ∷ 249 ∷ 250 ∷ 251 ∷ 252 ∷ 253 ∷ 254 ∷ 255 ∷ []) (Change Delivery)
    -- upper 0000000001 15 7
    ∷ says (117 ∷ 112 ∷ 112 ∷ 101 ∷ 114 ∷ 32 ∷ 48 ∷ 48 ∷ 48 ∷ 48 ∷ 48 ∷ 48 ∷ 48 ∷ 48 ∷ 48 ∷ 49 ∷ 32 ∷ 49 ∷ 53 ∷ 32 ∷ 55 ∷ []) Unclear
    -- upper 1 0000000015 7
    ∷ says (117 ∷ 112 ∷ 112 ∷ 101 ∷ 114 ∷ 32 ∷ 49 ∷ 32 ∷ 48 ∷ 48 ∷ 48 ∷ 48 ∷ 48 ∷ 48 ∷ 48 ∷ 48 ∷ 49 ∷ 53 ∷ 32 ∷ 55 ∷ []) Unclear
    -- upper 1 15 0000000007
    ∷ says (117 ∷ 112 ∷ 112 ∷ 101 ∷ 114 ∷ 32 ∷ 49 ∷ 32 ∷ 49 ∷ 53 ∷ 32 ∷ 48 ∷ 48 ∷ 48 ∷ 48 ∷ 48 ∷ 48 ∷ 48 ∷ 48 ∷ 48 ∷ 55 ∷ []) Unclear
    -- steps 1000000000 0
    ∷ says (115 ∷ 116 ∷ 101 ∷ 112 ∷ 115 ∷ 32 ∷ 49 ∷ 48 ∷ 48 ∷ 48 ∷ 48 ∷ 48 ∷ 48 ∷ 48 ∷ 48 ∷ 48 ∷ 32 ∷ 48 ∷ []) Unclear
    -- steps 0 1000000000
    ∷ says (115 ∷ 116 ∷ 101 ∷ 112 ∷ 115 ∷ 32 ∷ 48 ∷ 32 ∷ 49 ∷ 48 ∷ 48 ∷ 48 ∷ 48 ∷ 48 ∷ 48 ∷ 48 ∷ 48 ∷ 48 ∷ []) Unclear
    -- within 3 0 0 0
    ∷ says (119 ∷ 105 ∷ 116 ∷ 104 ∷ 105 ∷ 110 ∷ 32 ∷ 51 ∷ 32 ∷ 48 ∷ 32 ∷ 48 ∷ 32 ∷ 48 ∷ []) (Question (Within 3 0 0 0))
    -- within 0 1 2 3
    ∷ says (119 ∷ 105 ∷ 116 ∷ 104 ∷ 105 ∷ 110 ∷ 32 ∷ 48 ∷ 32 ∷ 49 ∷ 32 ∷ 50 ∷ 32 ∷ 51 ∷ []) (Question (Within 0 1 2 3))
    -- within 999999999 0 0 0
    ∷ says (119 ∷ 105 ∷ 116 ∷ 104 ∷ 105 ∷ 110 ∷ 32 ∷ 57 ∷ 57 ∷ 57 ∷ 57 ∷ 57 ∷ 57 ∷ 57 ∷ 57 ∷ 57 ∷ 32 ∷ 48 ∷ 32 ∷ 48 ∷ 32 ∷ 48 ∷ []) (Question (Within 999999999 0 0 0))
    -- within
    ∷ says (119 ∷ 105 ∷ 116 ∷ 104 ∷ 105 ∷ 110 ∷ []) Unclear
    -- within 3
    ∷ says (119 ∷ 105 ∷ 116 ∷ 104 ∷ 105 ∷ 110 ∷ 32 ∷ 51 ∷ []) Unclear
    -- within 3 0
    ∷ says (119 ∷ 105 ∷ 116 ∷ 104 ∷ 105 ∷ 110 ∷ 32 ∷ 51 ∷ 32 ∷ 48 ∷ []) Unclear
    -- within 3 0 0
    ∷ says (119 ∷ 105 ∷ 116 ∷ 104 ∷ 105 ∷ 110 ∷ 32 ∷ 51 ∷ 32 ∷ 48 ∷ 32 ∷ 48 ∷ []) Unclear
    -- within 3 0 0 0 0
    ∷ says (119 ∷ 105 ∷ 116 ∷ 104 ∷ 105 ∷ 110 ∷ 32 ∷ 51 ∷ 32 ∷ 48 ∷ 32 ∷ 48 ∷ 32 ∷ 48 ∷ 32 ∷ 48 ∷ []) Unclear
    -- within 0000000003 0 0 0
    ∷ says (119 ∷ 105 ∷ 116 ∷ 104 ∷ 105 ∷ 110 ∷ 32 ∷ 48 ∷ 48 ∷ 48 ∷ 48 ∷ 48 ∷ 48 ∷ 48 ∷ 48 ∷ 48 ∷ 51 ∷ 32 ∷ 48 ∷ 32 ∷ 48 ∷ 32 ∷ 48 ∷ []) Unclear
    -- within 3 0000000000 0 0
    ∷ says (119 ∷ 105 ∷ 116 ∷ 104 ∷ 105 ∷ 110 ∷ 32 ∷ 51 ∷ 32 ∷ 48 ∷ 48 ∷ 48 ∷ 48 ∷ 48 ∷ 48 ∷ 48 ∷ 48 ∷ 48 ∷ 48 ∷ 32 ∷ 48 ∷ 32 ∷ 48 ∷ []) Unclear
    -- within 3 0 0000000000 0
    ∷ says (119 ∷ 105 ∷ 116 ∷ 104 ∷ 105 ∷ 110 ∷ 32 ∷ 51 ∷ 32 ∷ 48 ∷ 32 ∷ 48 ∷ 48 ∷ 48 ∷ 48 ∷ 48 ∷ 48 ∷ 48 ∷ 48 ∷ 48 ∷ 48 ∷ 32 ∷ 48 ∷ []) Unclear
    -- within 3 0 0 0000000000
    ∷ says (119 ∷ 105 ∷ 116 ∷ 104 ∷ 105 ∷ 110 ∷ 32 ∷ 51 ∷ 32 ∷ 48 ∷ 32 ∷ 48 ∷ 32 ∷ 48 ∷ 48 ∷ 48 ∷ 48 ∷ 48 ∷ 48 ∷ 48 ∷ 48 ∷ 48 ∷ 48 ∷ []) Unclear
    -- withi
    ∷ says (119 ∷ 105 ∷ 116 ∷ 104 ∷ 105 ∷ []) Unclear
    -- withi 3 0 0 0
    ∷ says (119 ∷ 105 ∷ 116 ∷ 104 ∷ 105 ∷ 32 ∷ 51 ∷ 32 ∷ 48 ∷ 32 ∷ 48 ∷ 32 ∷ 48 ∷ []) Unclear
    -- withins 3 0 0 0
    ∷ says (119 ∷ 105 ∷ 116 ∷ 104 ∷ 105 ∷ 110 ∷ 115 ∷ 32 ∷ 51 ∷ 32 ∷ 48 ∷ 32 ∷ 48 ∷ 32 ∷ 48 ∷ []) Unclear
    -- Within 3 0 0 0
    ∷ says (87 ∷ 105 ∷ 116 ∷ 104 ∷ 105 ∷ 110 ∷ 32 ∷ 51 ∷ 32 ∷ 48 ∷ 32 ∷ 48 ∷ 32 ∷ 48 ∷ []) Unclear
    -- within  3 0 0 0 (two spaces)
    ∷ says (119 ∷ 105 ∷ 116 ∷ 104 ∷ 105 ∷ 110 ∷ 32 ∷ 32 ∷ 51 ∷ 32 ∷ 48 ∷ 32 ∷ 48 ∷ 32 ∷ 48 ∷ []) Unclear
    -- within 3 0 0  0 (two spaces)
    ∷ says (119 ∷ 105 ∷ 116 ∷ 104 ∷ 105 ∷ 110 ∷ 32 ∷ 51 ∷ 32 ∷ 48 ∷ 32 ∷ 48 ∷ 32 ∷ 32 ∷ 48 ∷ []) Unclear
    -- within 3 0 0 0 and a space
    ∷ says (119 ∷ 105 ∷ 116 ∷ 104 ∷ 105 ∷ 110 ∷ 32 ∷ 51 ∷ 32 ∷ 48 ∷ 32 ∷ 48 ∷ 32 ∷ 48 ∷ 32 ∷ []) Unclear
    -- an empty line
    ∷ says [] Nothing
    -- #
    ∷ says (35 ∷ []) Nothing
    -- # clear
    ∷ says (35 ∷ 32 ∷ 99 ∷ 108 ∷ 101 ∷ 97 ∷ 114 ∷ []) Nothing
    -- #clear
    ∷ says (35 ∷ 99 ∷ 108 ∷ 101 ∷ 97 ∷ 114 ∷ []) Nothing
    -- # and a carriage return
    ∷ says (35 ∷ 13 ∷ []) Nothing
    -- # and a NUL
    ∷ says (35 ∷ 0 ∷ []) Nothing
    -- a space
    ∷ says (32 ∷ []) Unclear
    -- clear after a space
    ∷ says (32 ∷ 99 ∷ 108 ∷ 101 ∷ 97 ∷ 114 ∷ []) Unclear
    -- clear and a space
    ∷ says (99 ∷ 108 ∷ 101 ∷ 97 ∷ 114 ∷ 32 ∷ []) Unclear
    -- # after a space
    ∷ says (32 ∷ 35 ∷ []) Unclear
    -- upper  0 0 0 (two spaces)
    ∷ says (117 ∷ 112 ∷ 112 ∷ 101 ∷ 114 ∷ 32 ∷ 32 ∷ 48 ∷ 32 ∷ 48 ∷ 32 ∷ 48 ∷ []) Unclear
    -- upper 0 0  0 (two spaces)
    ∷ says (117 ∷ 112 ∷ 112 ∷ 101 ∷ 114 ∷ 32 ∷ 48 ∷ 32 ∷ 48 ∷ 32 ∷ 32 ∷ 48 ∷ []) Unclear
    -- upper 0 0 0 and a space
    ∷ says (117 ∷ 112 ∷ 112 ∷ 101 ∷ 114 ∷ 32 ∷ 48 ∷ 32 ∷ 48 ∷ 32 ∷ 48 ∷ 32 ∷ []) Unclear
    -- upper
    ∷ says (117 ∷ 112 ∷ 112 ∷ 101 ∷ 114 ∷ []) Unclear
    -- upper 0
    ∷ says (117 ∷ 112 ∷ 112 ∷ 101 ∷ 114 ∷ 32 ∷ 48 ∷ []) Unclear
    -- upper 0 0
    ∷ says (117 ∷ 112 ∷ 112 ∷ 101 ∷ 114 ∷ 32 ∷ 48 ∷ 32 ∷ 48 ∷ []) Unclear
    -- upper 0 0 0 0
    ∷ says (117 ∷ 112 ∷ 112 ∷ 101 ∷ 114 ∷ 32 ∷ 48 ∷ 32 ∷ 48 ∷ 32 ∷ 48 ∷ 32 ∷ 48 ∷ []) Unclear
    -- Upper 0 0 0
    ∷ says (85 ∷ 112 ∷ 112 ∷ 101 ∷ 114 ∷ 32 ∷ 48 ∷ 32 ∷ 48 ∷ 32 ∷ 48 ∷ []) Unclear
    -- UPPER 0 0 0
    ∷ says (85 ∷ 80 ∷ 80 ∷ 69 ∷ 82 ∷ 32 ∷ 48 ∷ 32 ∷ 48 ∷ 32 ∷ 48 ∷ []) Unclear
    -- lower 0 0
    ∷ says (108 ∷ 111 ∷ 119 ∷ 101 ∷ 114 ∷ 32 ∷ 48 ∷ 32 ∷ 48 ∷ []) Unclear
    -- lower 0 0 0 0
    ∷ says (108 ∷ 111 ∷ 119 ∷ 101 ∷ 114 ∷ 32 ∷ 48 ∷ 32 ∷ 48 ∷ 32 ∷ 48 ∷ 32 ∷ 48 ∷ []) Unclear
    -- live 0 0
    ∷ says (108 ∷ 105 ∷ 118 ∷ 101 ∷ 32 ∷ 48 ∷ 32 ∷ 48 ∷ []) Unclear
    -- live 0 0 0 0
    ∷ says (108 ∷ 105 ∷ 118 ∷ 101 ∷ 32 ∷ 48 ∷ 32 ∷ 48 ∷ 32 ∷ 48 ∷ 32 ∷ 48 ∷ []) Unclear
    -- steps
    ∷ says (115 ∷ 116 ∷ 101 ∷ 112 ∷ 115 ∷ []) Unclear
    -- steps 0
    ∷ says (115 ∷ 116 ∷ 101 ∷ 112 ∷ 115 ∷ 32 ∷ 48 ∷ []) Unclear
    -- steps 0 0 0
    ∷ says (115 ∷ 116 ∷ 101 ∷ 112 ∷ 115 ∷ 32 ∷ 48 ∷ 32 ∷ 48 ∷ 32 ∷ 48 ∷ []) Unclear
    -- clear x
    ∷ says (99 ∷ 108 ∷ 101 ∷ 97 ∷ 114 ∷ 32 ∷ 120 ∷ []) Unclear
    -- clear 0
    ∷ says (99 ∷ 108 ∷ 101 ∷ 97 ∷ 114 ∷ 32 ∷ 48 ∷ []) Unclear
    -- margin 0
    ∷ says (109 ∷ 97 ∷ 114 ∷ 103 ∷ 105 ∷ 110 ∷ 32 ∷ 48 ∷ []) Unclear
    -- margins
    ∷ says (109 ∷ 97 ∷ 114 ∷ 103 ∷ 105 ∷ 110 ∷ 115 ∷ []) Unclear
    -- cleared
    ∷ says (99 ∷ 108 ∷ 101 ∷ 97 ∷ 114 ∷ 101 ∷ 100 ∷ []) Unclear
    -- clea
    ∷ says (99 ∷ 108 ∷ 101 ∷ 97 ∷ []) Unclear
    -- clean
    ∷ says (99 ∷ 108 ∷ 101 ∷ 97 ∷ 110 ∷ []) Unclear
    -- xlear
    ∷ says (120 ∷ 108 ∷ 101 ∷ 97 ∷ 114 ∷ []) Unclear
    -- model
    ∷ says (109 ∷ 111 ∷ 100 ∷ 101 ∷ 108 ∷ []) Unclear
    -- model and a space
    ∷ says (109 ∷ 111 ∷ 100 ∷ 101 ∷ 108 ∷ 32 ∷ []) Unclear
    -- model a b
    ∷ says (109 ∷ 111 ∷ 100 ∷ 101 ∷ 108 ∷ 32 ∷ 97 ∷ 32 ∷ 98 ∷ []) Unclear
    -- model  a (two spaces)
    ∷ says (109 ∷ 111 ∷ 100 ∷ 101 ∷ 108 ∷ 32 ∷ 32 ∷ 97 ∷ []) Unclear
    -- model a and a space
    ∷ says (109 ∷ 111 ∷ 100 ∷ 101 ∷ 108 ∷ 32 ∷ 97 ∷ 32 ∷ []) Unclear
    -- models a
    ∷ says (109 ∷ 111 ∷ 100 ∷ 101 ∷ 108 ∷ 115 ∷ 32 ∷ 97 ∷ []) Unclear
    -- delivery
    ∷ says (100 ∷ 101 ∷ 108 ∷ 105 ∷ 118 ∷ 101 ∷ 114 ∷ 121 ∷ []) Unclear
    -- delivery a b
    ∷ says (100 ∷ 101 ∷ 108 ∷ 105 ∷ 118 ∷ 101 ∷ 114 ∷ 121 ∷ 32 ∷ 97 ∷ 32 ∷ 98 ∷ []) Unclear
    -- model !
    ∷ says (109 ∷ 111 ∷ 100 ∷ 101 ∷ 108 ∷ 32 ∷ 33 ∷ []) (Change Model)
    -- model ~
    ∷ says (109 ∷ 111 ∷ 100 ∷ 101 ∷ 108 ∷ 32 ∷ 126 ∷ []) (Change Model)
    -- model #
    ∷ says (109 ∷ 111 ∷ 100 ∷ 101 ∷ 108 ∷ 32 ∷ 35 ∷ []) (Change Model)
    -- model 0
    ∷ says (109 ∷ 111 ∷ 100 ∷ 101 ∷ 108 ∷ 32 ∷ 48 ∷ []) (Change Model)
    -- delivery ../w/bounds.cer
    ∷ says (100 ∷ 101 ∷ 108 ∷ 105 ∷ 118 ∷ 101 ∷ 114 ∷ 121 ∷ 32 ∷ 46 ∷ 46 ∷ 47 ∷ 119 ∷ 47 ∷ 98 ∷ 111 ∷ 117 ∷ 110 ∷ 100 ∷ 115 ∷ 46 ∷ 99 ∷ 101 ∷ 114 ∷ []) (Change Delivery)
    -- model é (in UTF-8)
    ∷ says (109 ∷ 111 ∷ 100 ∷ 101 ∷ 108 ∷ 32 ∷ 195 ∷ 169 ∷ []) (Change Model)
    -- model and byte 128
    ∷ says (109 ∷ 111 ∷ 100 ∷ 101 ∷ 108 ∷ 32 ∷ 128 ∷ []) (Change Model)
    -- delivery and byte 255
    ∷ says (100 ∷ 101 ∷ 108 ∷ 105 ∷ 118 ∷ 101 ∷ 114 ∷ 121 ∷ 32 ∷ 255 ∷ []) (Change Delivery)
    -- clear and a carriage return
    ∷ says (99 ∷ 108 ∷ 101 ∷ 97 ∷ 114 ∷ 13 ∷ []) Unclear
    -- clear and a NUL
    ∷ says (99 ∷ 108 ∷ 101 ∷ 97 ∷ 114 ∷ 0 ∷ []) Unclear
    -- model and byte 31
    ∷ says (109 ∷ 111 ∷ 100 ∷ 101 ∷ 108 ∷ 32 ∷ 31 ∷ []) Unclear
    -- model and byte 127
    ∷ says (109 ∷ 111 ∷ 100 ∷ 101 ∷ 108 ∷ 32 ∷ 127 ∷ []) Unclear
    -- model, a tab and a
    ∷ says (109 ∷ 111 ∷ 100 ∷ 101 ∷ 108 ∷ 9 ∷ 97 ∷ []) Unclear
    -- margin and a tab
    ∷ says (109 ∷ 97 ∷ 114 ∷ 103 ∷ 105 ∷ 110 ∷ 9 ∷ []) Unclear
    -- upper 0 0 -1
    ∷ says (117 ∷ 112 ∷ 112 ∷ 101 ∷ 114 ∷ 32 ∷ 48 ∷ 32 ∷ 48 ∷ 32 ∷ 45 ∷ 49 ∷ []) Unclear
    -- upper 0 0 +1
    ∷ says (117 ∷ 112 ∷ 112 ∷ 101 ∷ 114 ∷ 32 ∷ 48 ∷ 32 ∷ 48 ∷ 32 ∷ 43 ∷ 49 ∷ []) Unclear
    -- upper 0 0 0x1
    ∷ says (117 ∷ 112 ∷ 112 ∷ 101 ∷ 114 ∷ 32 ∷ 48 ∷ 32 ∷ 48 ∷ 32 ∷ 48 ∷ 120 ∷ 49 ∷ []) Unclear
    -- upper 0 0 x
    ∷ says (117 ∷ 112 ∷ 112 ∷ 101 ∷ 114 ∷ 32 ∷ 48 ∷ 32 ∷ 48 ∷ 32 ∷ 120 ∷ []) Unclear
    -- upper 0 0 /
    ∷ says (117 ∷ 112 ∷ 112 ∷ 101 ∷ 114 ∷ 32 ∷ 48 ∷ 32 ∷ 48 ∷ 32 ∷ 47 ∷ []) Unclear
    -- upper 0 0 :
    ∷ says (117 ∷ 112 ∷ 112 ∷ 101 ∷ 114 ∷ 32 ∷ 48 ∷ 32 ∷ 48 ∷ 32 ∷ 58 ∷ []) Unclear
    -- upper / 0 0
    ∷ says (117 ∷ 112 ∷ 112 ∷ 101 ∷ 114 ∷ 32 ∷ 47 ∷ 32 ∷ 48 ∷ 32 ∷ 48 ∷ []) Unclear
    -- steps : 0
    ∷ says (115 ∷ 116 ∷ 101 ∷ 112 ∷ 115 ∷ 32 ∷ 58 ∷ 32 ∷ 48 ∷ []) Unclear
    -- model and a name of 255 bytes
    ∷ says (109 ∷ 111 ∷ 100 ∷ 101 ∷ 108 ∷ 32 ∷ replicate 255 97) (Change Model)
    -- model and a name of 256 bytes
    ∷ says (109 ∷ 111 ∷ 100 ∷ 101 ∷ 108 ∷ 32 ∷ replicate 256 97) Unclear
    -- delivery and a name of 255 bytes
    ∷ says (100 ∷ 101 ∷ 108 ∷ 105 ∷ 118 ∷ 101 ∷ 114 ∷ 121 ∷ 32 ∷ replicate 255 195) (Change Delivery)
    -- delivery and a name of 256 bytes
    ∷ says (100 ∷ 101 ∷ 108 ∷ 105 ∷ 118 ∷ 101 ∷ 114 ∷ 121 ∷ 32 ∷ replicate 256 195) Unclear
    -- 300 bytes
    ∷ says (replicate 300 97) Unclear
    -- 301 bytes
    ∷ says (replicate 301 97) Unclear
    -- # and 400 bytes
    ∷ says (35 ∷ replicate 400 7) Nothing
    ∷ []
