-- The records of each block as the code walks them, state by state, and the lemmas by which the code is proved.
use Prim.Native.Nat.{ℕ, ◌+◌, ◌*◌}
use native.Mathlib.Nat.{zero-add}
use native.Mathlib.Omega.{arith}
use mathlib.Core.List.{List}
use mathlib.Core.Path.{◌≡◌, refl, sym, ap, ◌∙◌}
use Rattle.outcome.specs.Tests.{Test}
use Rattle.walks.specs.Lists.{each}
use Rattle.outcome.proofs.Tests.{first_empty, first_after, first_refused, each_none, each_more, each_refused}
use Rattle.walks.proofs.Lists.{each_cong}
use Rattle.delivery.specs.declared.shape.Block.{Block}
use Rattle.delivery.specs.declared.shape.Block.TheVariants.{Uppers, Lowers, Means}
use Rattle.delivery.specs.declared.shape.Shape.{Shape}
use Rattle.delivery.specs.Shapes.{means_from}
use Rattle.delivery.proofs.Shapes.{uppers_fit, lowers_fit, means_fit}
use Rattle.walks.specs.Order.{entries_in, entry_at, each_entry, each_row}
use Rattle.layout.specs.Layout.{record_tests, upper_records, lower_records, mean_records}
use Rattle.layout.specs.Clauses.{state_of_block}

-- The records of a block of entries that starts at record `from`, state by state.
entries_walked : (s g from : ℕ) (d : List ℕ) (b : Block) (at : ℕ → ℕ) → ((i : ℕ) → at i ≡ from + i)
    → each_entry s g (λ p z q. record_tests d (at (entry_at s g p z q)) b p z q) ≡ each s (state_of_block d b from s g)
unfolding each_entry
entries_walked s g from d b at e =
    each_cong _ _ s (λ p lp. each_cong _ _ g (λ z lz. each_cong _ _ s (λ q lq. ap (λ i. record_tests d i b p z q) (place p z q))))
  where
    place : (p z q : ℕ) → at (entry_at s g p z q) ≡ from + p * g * s + z * s + q
    place p z q = e (entry_at s g p z q) ∙ omega arith

pub uppers_walked : (s g : ℕ) (d : List ℕ) → upper_records s g d ≡ each s (state_of_block d Uppers 0 s g)
unfolding upper_records
uppers_walked s g d = entries_walked s g 0 d Uppers (λ i. i) (λ i. sym (zero-add i))

pub lowers_walked : (s g : ℕ) (d : List ℕ) {from : ℕ} → from ≡ entries_in s g
    → lower_records s g d ≡ each s (state_of_block d Lowers from s g)
unfolding lower_records
lowers_walked s g d {from} e = entries_walked s g from d Lowers (λ i. entries_in s g + i) (λ i. ap (λ k. k + i) (sym e))

each_one : (h : ℕ → List Test) → each 1 h ≡ h 0
unfolding each
each_one h = refl

-- A row of mean steps is one record.
pub means_walked : (s g : ℕ) (h : Shape) (d : List ℕ) {from : ℕ} → from ≡ means_from s g h
    → mean_records s g h d ≡ each s (state_of_block d Means from 1 g)
unfolding mean_records each_row
means_walked s g h d {from} e =
    each_cong _ _ s (λ p lp. each_cong _ _ g (λ z lz. ap (λ i. record_tests d i Means p z 0) (place p z) ∙ sym (each_one _)))
  where
    place : (p z : ℕ) → means_from s g h + (p * g + z) ≡ from + p * g * 1 + z * 1 + 0
    place p z = omega arith

-- What a loop over tests goes by.
pub ruleset turns = (each_none, each_more, each_refused)

-- What the check of a file goes by: that it has the blocks of its shape, how the code walks each of them, and the lists of tests one after the other.
pub ruleset blocks = (uppers_fit, lowers_fit, means_fit, uppers_walked, lowers_walked, means_walked, first_refused, first_after, first_empty)
