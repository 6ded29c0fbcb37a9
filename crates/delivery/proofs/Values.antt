-- The values past the first records of a delivery.
use Prim.Native.Nat.{ℕ, ◌+◌, ◌*◌}
use native.Mathlib.Omega.{arith}
use mathlib.Core.List.{List}
use mathlib.Core.Path.{◌≡◌, ap, ◌∙◌}
use lib.ListN.{get_or, drop}
use lib.Seq.{get_or-drop}
use Rattle.words.specs.Words.{word_at}
use Rattle.delivery.specs.Format.{record_bytes, value_byte}
use Rattle.delivery.specs.Records.{value_at}

word_past : (d : List ℕ) (n at to : ℕ) → n + at ≡ to → word_at (drop n d) at ≡ word_at d to
unfolding word_at
word_past d n at to e = rw (get_or-drop n d at 0, e, byte 1, byte 2, byte 3)
  where
    byte : (j : ℕ) → get_or (drop n d) (at + j) 0 ≡ get_or d (to + j) 0
    byte j = get_or-drop n d (at + j) 0 ∙ ap (λ k. get_or d k 0) (omega arith)

pub rest_value : (d : List ℕ) (n i : ℕ) → value_at (drop (record_bytes * n) d) i ≡ value_at d (n + i)
unfolding value_at
rest_value d n i = word_past d (record_bytes * n) (record_bytes * i + value_byte) (record_bytes * (n + i) + value_byte) (omega arith)
