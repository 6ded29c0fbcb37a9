-- The blocks of a delivery as the register holds them: the lists of values that the code reads are the definition's.
use Prim.Native.Nat.{ℕ, ◌+◌, ◌-◌, ◌*◌, ◌≤◌}
use native.Mathlib.Omega.{arith}
use mathlib.Core.Bool.{Bool, true, false}
use mathlib.Core.List.{List}
use mathlib.Core.Path.{◌≡◌, refl, ◌∙◌}
use lib.ListN.{length, take, drop, replicate, length-drop}
use Rattle.delivery.specs.declared.shape.Shape.{Shape}
use Rattle.model.specs.Format.{most_entries}
use Rattle.delivery.specs.Format.{record_bytes}
use Rattle.delivery.specs.Shapes.{means_from}
use Rattle.walks.specs.Order.{entries_in, rows_in, row_at}
use Rattle.walks.proofs.Exits.{exit_ordered}
use Rattle.delivery.specs.Numbers.{uppers_of, lowers_of, means_of}
use Rattle.held.specs.Clauses.{Values}
use Rattle.delivery.proofs.Values.{rest_value}
use Rattle.certificate.proofs.Rest.{rest_lowers}
use Rattle.certificate.proofs.Steps.{part_from}
use Rattle.held.specs.Held.{listed_by_exit, listed_rows, if_standing}
use Rattle.held.proofs.Listed.{listed_cong, rows_is, values_rows}

-- ---- the part of a file from record n on

-- It has the m records that follow, where n and m are i and j.
pub part_holds : (d : List ℕ) {n m i j : ℕ} → n ≡ i → m ≡ j → record_bytes * (i + j) ≤ length d
    → record_bytes * m ≤ length (take (length d - record_bytes * n) (drop (record_bytes * n) d))
part_holds d {n} start e fits = rw (part_from d {n = n} refl, length-drop (record_bytes * n) d) (omega arith)

-- ---- the numbers of each block that follows the uppers

module _ (s g : ℕ) (d : List ℕ) {l : List ℕ} {n : ℕ} where
  pub lowers_listed : entries_in s g ≤ most_entries → n ≡ entries_in s g
      → l ≡ listed_by_exit s g (uppers_of s g (take (length d - record_bytes * n) (drop (record_bytes * n) d))) → l ≡ listed_by_exit s g (lowers_of s g d)
  lowers_listed few e values =
      let whole : l ≡ listed_by_exit s g (uppers_of s g (drop (record_bytes * entries_in s g) d)) = rw (part_from d {n = n} refl, e) at values in
      whole ∙ listed_cong (exit_ordered s g) _ (lowers_of s g d) few (rest_lowers s g d)

  pub means_listed : (h : Shape) {from : ℕ} → from ≡ means_from s g h → n ≡ rows_in s g
      → Values (take (length d - record_bytes * from) (drop (record_bytes * from) d)) n l → l ≡ listed_rows s g (means_of s g h d)
  unfolding means_of
  means_listed h {from} start e values =
      let whole : Values (drop (record_bytes * means_from s g h) d) (rows_in s g) l = rw (part_from d {n = from} refl, start, e) at values in
      rows_is s g (means_of s g h d) whole.size
      (λ p z hp hz. values_rows s g whole p z hp hz ∙ rest_value d (means_from s g h) (row_at g p z)) whole.none

-- ---- a block that may be absent

pub where_it_stands : {t : Bool} {l k : List ℕ} → t ≡ true → l ≡ k → l ≡ if_standing t k
where_it_stands stands e = rw stands e

pub where_it_does_not : {t : Bool} (k : List ℕ) → t ≡ false → replicate most_entries 0 ≡ if_standing t k
where_it_does_not k absent = rw absent
