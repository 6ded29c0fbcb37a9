-- Which part is the offending one, case by case.
use Prim.Native.Nat.{ℕ}
use native.Mathlib.Omega.{arith}
use mathlib.Core.Bool.{Bool, true, false, ◌&&◌, true≢false}
use mathlib.Core.List.{List}
use mathlib.Core.Path.{◌≡◌, sym}
use lib.Dec.{leb}
use borrow.Author.Tests.{leb-true, lt-leb}
use Rattle.parts.specs.declared.record.Kind.TheVariants.{Model, Delivery}
use Rattle.parts.specs.Parts.{is_whole, record_part, nothing, names_rule, names_bound, names_model, in_model, in_delivery, offending_part}

-- No reason's place is a record of both files.
rule_not_bound : (n : ℕ) → names_rule n ≡ true → names_bound n ≡ false
unfolding names_rule names_bound
rule_not_bound n h = rw (lt-leb 21 n (omega (arith, leb-true n 14 (right (leb 11 n) (leb n 14) h))))
  where
    right : (s t : Bool) → (s && t) ≡ true → t ≡ true
    right true t h = h
    right false t h = absurd (true≢false (sym h))

module _ (n i : ℕ) (b d : List ℕ) where
  pub names_model_lem : names_model n ≡ true → offending_part n i b d ≡ in_model nothing
  unfolding offending_part
  names_model_lem h = rw h

  module _ (m : names_model n ≡ false) where
    pub names_rule_lem : names_rule n ≡ true → is_whole Model b i ≡ true → offending_part n i b d ≡ in_model (record_part Model b i)
    unfolding offending_part
    names_rule_lem h w = rw (m, h, w)

    pub names_no_rule : names_rule n ≡ true → is_whole Model b i ≡ false → offending_part n i b d ≡ in_delivery nothing
    unfolding offending_part
    names_no_rule h w = rw (m, h, w, rule_not_bound n h)

    pub names_bound_lem : names_rule n ≡ false → names_bound n ≡ true → offending_part n i b d ≡ in_delivery (record_part Delivery d i)
    unfolding offending_part
    names_bound_lem h k = rw (m, h, k)

    pub names_none : names_rule n ≡ false → names_bound n ≡ false → offending_part n i b d ≡ in_delivery nothing
    unfolding offending_part
    names_none h k = rw (m, h, k)
