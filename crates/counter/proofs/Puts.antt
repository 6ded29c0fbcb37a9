-- The ten bytes of a model record in their places: six stores one after the other, and a word behind them; and a buffer with one record more.
use Prim.Native.Nat.{ℕ, suc, ◌+◌, ◌≤◌}
use native.Mathlib.Omega.{arith}
use mathlib.Core.List.{List, [], ◌∷◌, ◌++◌, append_assoc}
use mathlib.Core.Path.{◌≡◌, sym, ap, ◌∙◌}
use lib.ListN.{length, set, take, drop, length-append}
use lib.Seq.{length-take-le, take_at}
use Rattle.words.specs.Words.{four_bytes}
use Rattle.words.specs.Clauses.{written}
use Rattle.words.proofs.Words.{sets_written, written_twice}

pub put_record : (l : List ℕ) (at a b c d e f w : ℕ) → at + 10 ≤ length l
    → written (set (set (set (set (set (set l (at + 0) a) (at + 1) b) (at + 2) c) (at + 3) d) (at + 4) e) (at + 5) f) (at + 6) (four_bytes w)
    ≡ written l at (a ∷ b ∷ c ∷ d ∷ e ∷ f ∷ four_bytes w)
put_record l at a b c d e f w h =
    ap (λ k. written k (at + 6) (four_bytes w)) six ∙ written_twice l at (a ∷ b ∷ c ∷ d ∷ e ∷ f ∷ []) (four_bytes w) (omega arith)
  where
    six : set (set (set (set (set (set l (at + 0) a) (at + 1) b) (at + 2) c) (at + 3) d) (at + 4) e) (at + 5) f ≡ written l at (a ∷ b ∷ c ∷ d ∷ e ∷ f ∷ [])
    six =
        let e₀ : at + 0 ≡ at = omega arith in
        let e₁ : at + 1 ≡ suc at = omega arith in
        let e₂ : at + 2 ≡ suc (suc at) = omega arith in
        let e₃ : at + 3 ≡ suc (suc (suc at)) = omega arith in
        let e₄ : at + 4 ≡ suc (suc (suc (suc at))) = omega arith in
        let e₅ : at + 5 ≡ suc (suc (suc (suc (suc at)))) = omega arith in
        rw (e₀, e₁, e₂, e₃, e₄, e₅) (sets_written (a ∷ b ∷ c ∷ d ∷ e ∷ f ∷ []) l at (omega arith))

-- A buffer that starts with n bytes and gets x behind them starts with both.
pub take_written : (l : List ℕ) (n : ℕ) (x : List ℕ) → n + length x ≤ length l → take (n + length x) (written l n x) ≡ take n l ++ x
take_written l n x h =
    ap (take (n + length x)) (sym (append_assoc (take n l) x (drop (n + length x) l)))
    ∙ take_at (take n l ++ x) (drop (n + length x) l) (n + length x)
    (length-append (take n l) x ∙ ap (λ k. k + length x) (length-take-le n l (omega arith)))
