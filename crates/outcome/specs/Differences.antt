-- The signed difference of two exact sums (document 01, "Shortfall is a signed count"). `sub_ℕ a b` of the library is a − b.
use Rattle.std.specs.Prelude.{ℕ, suc, ◌-◌, min, cond, leb, ℤ, pos, negsuc}

-- have − need as an i64 holds it, from −2^63 to 2^63 − 1: a difference beyond an end is that end. `negsuc n` is −(n + 1).
unfoldable pub difference : ℕ → ℕ → ℤ
difference have need =
    cond (leb need have) (pos (min (have - need) 9223372036854775807)) (negsuc (min (need - suc have) 9223372036854775807))
