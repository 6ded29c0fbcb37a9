-- `same`: the parts with the first n numbers are equal exactly where these numbers are.
use Prim.Native.Nat.{ℕ, ◌≤◌, ◌<◌}
use native.Mathlib.Omega.{arith}
use mathlib.Core.List.{List}
use mathlib.Core.Path.{◌≡◌, sym, ap, ◌∙◌}
use lib.ListN.{length, get_or, take}
use lib.Seq.{ext_get_or, get_or-take, length-take-le}
use Rattle.std.proofs.lemmas.Bool.Decides.{Decides-eqb}
use Rattle.std.proofs.lemmas.Slice.Eq.{slice_eq-Decides}
use Rattle.held.proofs.lists.same.Goals as goal

same_front : (a b : List ℕ) (n : ℕ) → n ≤ length a → n ≤ length b → ((e : ℕ) → e < n → get_or a e 0 ≡ get_or b e 0) → take n a ≡ take n b
same_front a b n first second same =
    ext_get_or 0 (take n a) (take n b) (length-take-le n a first ∙ sym (length-take-le n b second))
    (λ e lt.
    let under : e < n = omega (arith, length-take-le n a first) in
    get_or-take n a e 0 under ∙ same e under ∙ sym (get_or-take n b e 0 under))

pub returns : goal.returns
returns c =
    let args = c.args in
    let equal = slice_eq-Decides Decides-eqb (take args.n args.a.now) (take args.n args.b.now) _ c.eq.ensures in (
      λ yes e lt. sym (get_or-take args.n args.a.now e 0 lt) ∙ ap (λ l. get_or l e 0) (equal.0 yes) ∙ get_or-take args.n args.b.now e 0 lt,
      λ same. equal.1 (same_front args.a.now args.b.now args.n (omega arith) (omega arith) same),
    )
