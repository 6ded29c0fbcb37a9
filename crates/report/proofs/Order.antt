-- A report goes through the entries and the rows by their numbers, which is the order of p, Z and q: the lines, and the count of live
-- entries, are those of walks one inside the other.
use Prim.Native.Nat.{ℕ, zero, suc, ◌+◌, ◌*◌}
use native.Mathlib.Nat.{add-zero, add-suc, zero-mul, suc-mul}
use native.Mathlib.Omega.{arith}
use mathlib.Core.Path.{◌≡◌, sym, ap, ap₂, ◌∙◌}
use Rattle.walks.proofs.Orders.{rows_by_number, entries_in_order}
use Rattle.walks.specs.Sums.{sum_to}
use Rattle.walks.specs.Order.{by_row, each_row, each_entry}
use Rattle.ppda.specs.Equations.{Vector}
use Rattle.walks.proofs.Places.{row_at_lem}
use Rattle.walks.proofs.Sums.{sum_to_cong}
use Rattle.calls.specs.Calls.{Call, Reply}
use Rattle.report.specs.Printed.{live_at, live_entries, chance_at, chance_lines, steps_at, steps_lines}

-- ---- lines

pub chances_in_order : (ask : Call → Reply) (gap : Vector) (s g : ℕ) → chance_lines ask gap s g ≡ each_entry s g (chance_at ask gap)
unfolding chance_lines
chances_in_order ask gap s g = sym (entries_in_order s g (chance_at ask gap))

pub steps_in_order : (ask : Call → Reply) (s g : ℕ) → steps_lines ask s g ≡ each_row s g (steps_at ask)
unfolding steps_lines
steps_in_order ask s g = sym (rows_by_number s g (steps_at ask))

-- ---- the count

sum_append : (h : ℕ → ℕ) (a b : ℕ) → sum_to h (a + b) ≡ sum_to h a + sum_to (λ j. h (a + j)) b
unfolding sum_to
sum_append h a zero = ap (sum_to h) (add-zero a) ∙ omega arith
sum_append h a (suc b) = ap (sum_to h) (add-suc a b) ∙ rw (sum_append h a b) (omega arith)

sum_flat : (h : ℕ → ℕ) (n m : ℕ) → sum_to h (n * m) ≡ sum_to (λ i. sum_to (λ j. h (i * m + j)) m) n
unfolding sum_to
sum_flat h zero m = ap (sum_to h) (zero-mul m)
sum_flat h (suc n) m =
    ap (sum_to h) (suc-mul n m) ∙ sum_append h (n * m) m ∙ ap (λ t. t + sum_to (λ j. h (n * m + j)) m) (sum_flat h n m)

rows_counted : (s g : ℕ) (h : ℕ → ℕ → ℕ) → sum_to (by_row g h) (s * g) ≡ sum_to (λ p. sum_to (h p) g) s
rows_counted s g h =
    sum_flat (by_row g h) s g
    ∙ sum_to_cong _ _ s (λ p hp. sum_to_cong _ _ g (λ z hz. ap₂ h (row_at_lem g p z hz).0 (row_at_lem g p z hz).1))

pub live_in_order : (ask : Call → Reply) (s g : ℕ) → live_entries ask s g ≡ sum_to (λ p. sum_to (λ z. sum_to (live_at ask p z) s) g) s
unfolding live_entries
live_in_order ask s g = rows_counted (s * g) s (by_row g (live_at ask)) ∙ rows_counted s g (λ p z. sum_to (live_at ask p z) s)
