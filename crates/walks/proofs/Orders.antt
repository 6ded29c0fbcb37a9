-- Two ways through rows and entries: nested by state, symbol and exit, and number by number.
use Prim.Native.Nat.{ℕ, ◌+◌, ◌*◌, ◌<◌}
use mathlib.Core.List.{List}
use mathlib.Core.Path.{◌≡◌, sym, ap₂, ◌∙◌}
use Rattle.walks.specs.Lists.{each}
use Rattle.walks.specs.Order.{rows_in, entries_in, entry_at, by_row, by_entry, each_row, each_entry}
use Rattle.walks.proofs.Lists.{each_cong, each_flat}
use Rattle.walks.proofs.Places.{row_at_lem}

module _ {A : Type 0} where
  pub rows_by_number : (s g : ℕ) (h : ℕ → ℕ → List A) → each_row s g h ≡ each (rows_in s g) (by_row g h)
  unfolding each_row
  rows_by_number s g h =
      each_cong _ _ s (λ p lp. each_cong _ _ g (λ z lz. sym (ap₂ h (row_at_lem g p z lz).0 (row_at_lem g p z lz).1)))
      ∙ each_flat s g (by_row g h)

  pub entries_by_row : (s g : ℕ) (h : ℕ → ℕ → ℕ → List A) → each_entry s g h ≡ each (rows_in s g) (by_row g (λ p z. each s (h p z)))
  unfolding each_entry each_row
  entries_by_row s g h = rows_by_number s g (λ p z. each s (h p z))

  pub entries_in_order : (s g : ℕ) (h : ℕ → ℕ → ℕ → List A) → each_entry s g h ≡ each (entries_in s g) (by_entry s g h)
  unfolding each_row
  entries_in_order s g h = entries_by_row s g h ∙ rows_by_number (rows_in s g) s (by_row g h)

  pub entries_by_number : (s g : ℕ) (h : ℕ → ℕ → ℕ → List A) (k : ℕ → List A)
      → ((p z q : ℕ) → p < s → z < g → q < s → h p z q ≡ k (entry_at s g p z q)) → each_entry s g h ≡ each (entries_in s g) k
  unfolding each_entry
  entries_by_number s g h k e =
      each_cong _ _ s (λ p lp. each_cong _ _ g (λ z lz. each_cong _ _ s (λ q lq. e p z q lp lz lq)))
      ∙ each_flat s g (λ r. each s (λ q. k (r * s + q))) ∙ each_flat (s * g) s k
