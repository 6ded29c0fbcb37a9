-- Four bytes and the number that they are, low byte first (document 01, "Models" and "Deliveries"): what each byte counts, all four, and the ends.
use Rattle.std.specs.Prelude.{ℕ, List, [], ◌∷◌}
use Rattle.words.specs.Words.{word_at, four_bytes}

pub record Word : Type 0 where
  pub bytes : List ℕ
  pub number : ℕ

abbrev pub four : ℕ → ℕ → ℕ → ℕ → ℕ → Word
four a b c d n = record { bytes = a ∷ b ∷ c ∷ d ∷ []; number = n }

abbrev pub bytes_of : Word → List ℕ
bytes_of w = w.bytes

abbrev pub number_of : Word → ℕ
number_of w = w.number

-- The number read from a line's bytes, and the bytes made of its number.
abbrev pub read_of : Word → ℕ
read_of w = word_at w.bytes 0

abbrev pub made_of : Word → List ℕ
made_of w = four_bytes w.number

abbrev pub words : List Word
words =
    four 0 0 0 0 0
    ∷ four 1 0 0 0 1
    ∷ four 0 1 0 0 256
    ∷ four 0 0 1 0 65536
    ∷ four 0 0 0 1 16777216
    ∷ four 0 0 0 128 2147483648
    ∷ four 0 0 1 1 16842752
    ∷ four 1 2 3 4 67305985
    ∷ four 255 255 255 255 4294967295
    ∷ []
