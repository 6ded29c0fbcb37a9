-- A whole record: it lies within its file, and the definitions say what is handed back for it and for one that is not whole.
use Prim.Native.Nat.{ℕ, ◌+◌, ◌*◌, ◌-◌, ◌/◌, ◌<◌, ◌≤◌}
use native.Mathlib.Nat.{add-sub_cancel_left, div-le_self, mul-div-le, mul-le-mul_left}
use native.Mathlib.Omega.{arith}
use mathlib.Core.Bool.{true, false}
use mathlib.Core.List.{List, []}
use mathlib.Core.Path.{◌≡◌, refl}
use lib.ListN.{length, take, drop}
use borrow.Author.Tests.{ltb-true}
use Rattle.parts.specs.declared.record.Kind.{Kind}
use Rattle.parts.specs.declared.record.Kind.TheVariants.{Model, Delivery}
use Rattle.parts.specs.Parts.{size_of, is_whole, record_part, next_after, nothing, Lying}

pub size_positive : (k : Kind) → 0 < size_of k
size_positive Model = omega arith
size_positive Delivery = omega arith

-- The empty part at the start of a file.
pub empty_lies : {A : Type 0} {block : A} {offset : ℕ} {b : List ℕ} → Lying block offset b nothing block offset []
empty_lies = record { same = refl; at = omega arith; are = refl }

module _ (k : Kind) (b : List ℕ) (i : ℕ) where
  pub whole_fits : {s : ℕ} → s ≡ size_of k → is_whole k b i ≡ true → s * i + s ≤ length b
  unfolding is_whole
  whole_fits e h =
      let below : i + 1 ≤ length b / size_of k = omega (arith, ltb-true i (length b / size_of k) h) in
      rw e (omega (arith, mul-div-le (length b) (size_of k), mul-le-mul_left (size_of k) below))

  pub whole_below : is_whole k b i ≡ true → i + 1 ≤ length b
  unfolding is_whole
  whole_below h = omega (arith, div-le_self (length b) (size_of k), ltb-true i (length b / size_of k) h)

  pub whole_next : is_whole k b i ≡ true → next_after k b i ≡ i + 1
  unfolding next_after
  whole_next h = rw h

  pub no_next : is_whole k b i ≡ false → next_after k b i ≡ i
  unfolding next_after
  no_next h = rw h

  module _ {A : Type 0} {block : A} {offset : ℕ} where
    pub whole_lies : {s : ℕ} → s ≡ size_of k → is_whole k b i ≡ true
        → Lying block offset b (record_part k b i) block (s * i + offset) (take (s * i + s - s * i) (drop (s * i) b))
    unfolding record_part
    whole_lies e h = rw h (rw e (record { same = refl; at = omega arith; are = rw add-sub_cancel_left }))

    pub none_lies : is_whole k b i ≡ false → Lying block offset b (record_part k b i) block offset []
    unfolding record_part
    none_lies h = rw h empty_lies
