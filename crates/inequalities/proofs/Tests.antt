-- How a loop over rows finds the outcome of all, and the lemmas by which the code is proved.
use Prim.Native.Nat.{ℕ, ◌<◌}
use native.Mathlib.Nat.{div-add-mod'}
use mathlib.Core.List.{List}
use mathlib.Core.Path.{◌≡◌, refl, sym, ap, ◌∙◌}
use Rattle.outcome.specs.Tests.{Test, first}
use Rattle.walks.proofs.Orders.{entries_by_row, rows_by_number}
use Rattle.model.proofs.Records.{fits_narrow}
use Rattle.model.proofs.Accepted.{sized_fits}
use Rattle.outcome.proofs.Tests.{each_none, each_more, each_refused}
use Rattle.walks.specs.Lists.{each}
use Rattle.walks.specs.Order.{rows_in, by_row, each_entry, each_row}
use Rattle.outcome.specs.declared.Refusal.{Refusal}
use Rattle.std.specs.Prelude.{Err}
use Rattle.outcome.specs.Outcomes.{Accepted}

-- A loop that finds a refusal at row number k, after all rows before it have passed, has found the outcome: of tests of entries, and of rows.
module _ (s g k : ℕ) {why : Refusal} (l : k < rows_in s g) where
  pub entries_refused : (h : ℕ → ℕ → ℕ → List Test) → first (each k (by_row g (λ p z. each s (h p z)))) ≡ Accepted
      → first (by_row g (λ p z. each s (h p z)) k) ≡ Err why → first (each_entry s g h) ≡ Err why
  entries_refused h a e = sym (each_refused _ _ k (Err why) l a (sym e) refl ∙ ap first (sym (entries_by_row s g h)))

  pub rows_refused : (h : ℕ → ℕ → List Test) → first (each k (by_row g h)) ≡ Accepted → first (by_row g h k) ≡ Err why
      → first (each_row s g h) ≡ Err why
  rows_refused h a e = sym (each_refused _ _ k (Err why) l a (sym e) refl ∙ ap first (sym (rows_by_number s g h)))

-- What a loop over tests goes by: over numbers, over rows, and over the entries of a row.
pub ruleset turns = (each_none, each_more, each_refused)

pub ruleset rows_in_turn = (each_none, each_more, entries_refused, rows_refused, entries_by_row, rows_by_number, sized_fits)

pub ruleset entries_in_turn = (each_none, each_more, each_refused, div-add-mod', sized_fits, fits_narrow)
