-- Places by exit (request A.6): each is below V, different entries have different places, every number below V is a place, and the entries of one exit stand side
-- by side. And what the order of files and the order by exit have in common, so that a law of lists is stated once for both.
use Prim.Native.Nat.{ℕ, ◌+◌, ◌*◌, ◌/◌, ◌%◌, ◌<◌}
use native.Mathlib.Omega.{arith}
use mathlib.Core.Path.{◌≡◌, ap, ◌∙◌}
use Rattle.walks.specs.Order.{entries_in, row_at, entry_in, entry_at, exit_place, exit_in, by_entry, by_exit, AtEntries}
use Rattle.walks.proofs.Places.{row_at_lem, row_split, row_below, entry_once, entry_below}

-- ---- places by exit

-- The entries of exit q stand side by side, from place q × s × g on, in the order of their rows.
pub exit_rows : (s g p z q : ℕ) → exit_place s g p z q ≡ exit_in s g (row_at g p z) q
exit_rows s g p z q = omega arith

-- Each place is below V.
pub exit_in_below : (s g k q : ℕ) → k < s * g → q < s → exit_in s g k q < entries_in s g
exit_in_below s g k q hk hq = omega (arith, row_below s (s * g) q k hq hk)

pub exit_below : (s g p z q : ℕ) → p < s → z < g → q < s → exit_place s g p z q < entries_in s g
exit_below s g p z q hp hz hq =
    omega (arith, exit_rows s g p z q, exit_in_below s g (row_at g p z) q (row_below s g p z hp hz) hq)

-- Different entries have different places.
pub exit_once : (s g p z q p' z' q' : ℕ) → p < s → z < g → p' < s → z' < g → exit_place s g p z q ≡ exit_place s g p' z' q'
    → (p ≡ p') × (z ≡ z') × (q ≡ q')
exit_once s g p z q p' z' q' hp hz hp' hz' e =
    let (exit, state, symbol) = entry_once g s q p z q' p' z' hp hz hp' hz' e in
    (state, symbol, exit)

-- At the place of (p, z, q) stands this entry, and every place below V is that of one.
pub exit_at_lem : (s g p z q : ℕ) → p < s → z < g →
    let i = exit_place s g p z q in
    (i / g % s ≡ p) × (i % g ≡ z) × (i / g / s ≡ q)
exit_at_lem s g p z q hp hz =
    let (above, symbol) = row_at_lem g (q * s + p) z hz in
    let (exit, state) = row_at_lem s q p hp in
    (rw above state, symbol, rw above exit)

pub exit_of : (s g i : ℕ) → i < entries_in s g → (p : ℕ) × (z : ℕ) × (q : ℕ) × (p < s) × (z < g) × (q < s) × (i ≡ exit_place s g p z q)
exit_of s g i h =
    let (k, z, hk, hz, here) = row_split (s * s) g i (omega arith) in
    let (q, p, hq, hp, there) = row_split s s k hk in
    (p, z, q, hp, hz, hq, here ∙ ap (λ k. k * g + z) there)

-- ---- an order of entries

-- Places for the entries of s states and g symbols, and what a vector says by place: each place is below V, at the place of an entry stands its number, and every
-- place below V is that of an entry.
pub record Ordered (s g : ℕ) (place : ℕ → ℕ → ℕ → ℕ) (by : (ℕ → ℕ → ℕ → ℕ) → ℕ → ℕ) : Type 0 where
  pub below : AtEntries s g (λ p z q. place p z q < entries_in s g)
  pub stands : (h : ℕ → ℕ → ℕ → ℕ) → AtEntries s g (λ p z q. by h (place p z q) ≡ h p z q)
  pub of : (i : ℕ) → i < entries_in s g → (p : ℕ) × (z : ℕ) × (q : ℕ) × (p < s) × (z < g) × (q < s) × (i ≡ place p z q)

pub file_ordered : (s g : ℕ) → Ordered s g (entry_at s g) (by_entry s g)
file_ordered s g = record {
  below = entry_below s g;
  stands = λ h p z q hp hz hq.
      let (row, exit) = row_at_lem s (row_at g p z) q hq in
      let (state, symbol) = row_at_lem g p z hz in
      rw (row, exit, state, symbol);
  of = λ i h.
      let (k, q, hk, hq, here) = row_split (s * g) s i h in
      let (p, z, hp, hz, there) = row_split s g k hk in
      (p, z, q, hp, hz, hq, here ∙ ap (λ k. entry_in s k q) there);
}

pub exit_ordered : (s g : ℕ) → Ordered s g (exit_place s g) (by_exit s g)
exit_ordered s g = record {
  below = exit_below s g;
  stands = λ h p z q hp hz hq. let (state, symbol, exit) = exit_at_lem s g p z q hp hz in rw (state, symbol, exit);
  of = exit_of s g;
}

-- What holds at the place of every entry holds at every place below V.
pub at_places : {s g : ℕ} {place : ℕ → ℕ → ℕ → ℕ} {by : (ℕ → ℕ → ℕ → ℕ) → ℕ → ℕ} → Ordered s g place by
    → (P : ℕ → Type 0) → AtEntries s g (λ p z q. P (place p z q)) → (i : ℕ) → i < entries_in s g → P i
at_places o P at i h = let (p, z, q, hp, hz, hq, here) = o.of i h in rw here (at p z q hp hz hq)
