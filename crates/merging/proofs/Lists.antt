-- The block of records in the order of files that uppers listed by exit are put into: one record more with each turn.
use Prim.Native.Nat.{ℕ, ◌+◌, ◌*◌, ◌≤◌, ◌<◌}
use native.Mathlib.Omega.{arith}
use mathlib.Core.Bool.{Bool, true, false}
use mathlib.Core.List.{List}
use mathlib.Core.Logic.{◌⊎◌, inl, inr}
use mathlib.Core.Path.{◌≡◌, refl, sym, ◌∙◌}
use lib.Dec.{eqb}
use lib.ListN.{length, get_or, replicate, length-replicate}
use borrow.Author.Tests.{eqb-true, eqb-false}
use Rattle.walks.specs.Order.{entries_in, entry_in, entry_at, exit_in, by_entry}
use Rattle.walks.proofs.Lists.{get_d_zeros}
use Rattle.walks.proofs.Numbers.{less_or_not}
use Rattle.walks.proofs.Places.{row_split, entry_below}
use Rattle.walks.proofs.Exits.{exit_rows, file_ordered}
use Rattle.words.specs.Words.{word_at, four_bytes}
use Rattle.words.specs.Clauses.{written}
use Rattle.words.proofs.Words.{length_written, word_written, word_apart}
use Rattle.ppda.specs.Units.{most_chance}
use Rattle.ppda.specs.Equations.{Same}
use Rattle.model.specs.Format.{most_entries}
use Rattle.delivery.specs.Format.{record_bytes, value_byte}
use Rattle.delivery.specs.Records.{value_at}
use Rattle.delivery.specs.Numbers.{uppers_of}
use Rattle.delivery.specs.Clauses.{Within}
use Rattle.held.specs.Places.{entries_by_exit}
use Rattle.merging.specs.Clauses.{ChancesListed, block_bytes, Holds}

-- ---- the block of listed uppers

pub holds_none : (s g : ℕ) (l : List ℕ) (n : ℕ) → n ≡ block_bytes → Holds s g l 0 (replicate n 0)
unfolding value_at word_at
holds_none s g l n e = record {
  size = length-replicate {A = ℕ} n 0 ∙ e;
  value = λ i lt. absurd (omega arith);
  none = λ i le. rw (get_d_zeros n (record_bytes * i + value_byte), get_d_zeros n (record_bytes * i + value_byte + 1), get_d_zeros n (record_bytes * i + value_byte + 2), get_d_zeros n (record_bytes * i + value_byte + 3));
}

module _ {s g : ℕ} {l block : List ℕ} {n : ℕ} (before : Holds s g l n block) (room : n < most_entries) where
  fits : record_bytes * n + value_byte + 3 < length block
  fits = omega (arith, before.size)

  pub holds_step : {at v : ℕ} → v ≤ most_chance → at ≡ record_bytes * n + value_byte → v ≡ by_entry s g (entries_by_exit s g l) n
      → Holds s g l (n + 1) (written block at (four_bytes v))
  unfolding value_at
  holds_step {at} {v} chance place is =
      rw place
      (record {
        size = length_written block (record_bytes * n + value_byte) (four_bytes v) (omega (arith, fits)) ∙ before.size;
        value = λ e lt. go e lt (eqb e n) refl;
        none = λ e le. word_apart block (record_bytes * n + value_byte) v (record_bytes * e + value_byte) fits (inr (omega arith)) ∙ before.none e (omega arith);
      })
    where
      go : (e : ℕ) → e < n + 1 → (t : Bool) → eqb e n ≡ t
          → value_at (written block (record_bytes * n + value_byte) (four_bytes v)) e ≡ by_entry s g (entries_by_exit s g l) e
      go e lt true q =
          let same : e ≡ n = eqb-true e n q in
          rw same (word_written block (record_bytes * n + value_byte) v (omega arith) (omega (arith, fits)) ∙ is)
      go e lt false q =
          let apart : e ≡ n → ⊥ = eqb-false e n q in
          word_apart block (record_bytes * n + value_byte) v (record_bytes * e + value_byte) fits (inl (omega arith)) ∙ before.value e (omega arith)

pub holds_end : {s g : ℕ} {l block : List ℕ} {n m : ℕ} → Holds s g l n block → n ≡ m → Holds s g l m block
holds_end {s} {g} {l} {block} holds e = rw e at holds

-- The entry with exit q of row k is listed at its place by exit.
pub listed_in : (s g : ℕ) (l : List ℕ) (k q : ℕ) → k < s * g → q < s → get_or l (exit_in s g k q) 0 ≡ by_entry s g (entries_by_exit s g l) (entry_in s k q)
listed_in s g l k q hk hq =
    let (p, z, hp, hz, here) = row_split s g k hk in
    rw (here, ← exit_rows s g p z q) (sym ((file_ordered s g).stands (entries_by_exit s g l) p z q hp hz hq))

module _ {l block : List ℕ} (s g : ℕ) (holds : Holds s g l (entries_in s g) block) where
  -- Its values are the listed uppers of the entries.
  pub block_uppers : Same s g (uppers_of s g block) (entries_by_exit s g l)
  unfolding uppers_of
  block_uppers p z q hp hz hq =
      holds.value (entry_at s g p z q) (entry_below s g p z q hp hz hq) ∙ (file_ordered s g).stands (entries_by_exit s g l) p z q hp hz hq

  -- And they are in range.
  pub block_in_range : ChancesListed l → entries_in s g ≤ most_entries → Within block (entries_in s g) most_chance
  block_in_range chances few = record { whole = omega (arith, holds.size); most = λ i. go i (less_or_not i (entries_in s g)) }
    where
      go : (i : ℕ) → (i < entries_in s g) ⊎ (entries_in s g ≤ i) → value_at block i ≤ most_chance
      go i (inl lt) = rw (holds.value i lt) (chances _)
      go i (inr le) = rw (holds.none i le) (omega arith)
