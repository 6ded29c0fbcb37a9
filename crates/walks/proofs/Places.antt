-- Rows and entries by their numbers in file order: row (p, z) is number p × g + z, and entry (p, z, q) is number (p × g + z) × s + q.
use Prim.Native.Nat.{ℕ, zero, suc, ◌+◌, ◌*◌, ◌/◌, ◌%◌, ◌≤◌, ◌<◌}
use native.Mathlib.Nat.{suc-mul, zero-mul, mul-le-mul_right, mod-lt, div-lt_iff_lt-mul, div-add-mod'}
use native.Mathlib.Omega.{arith}
use mathlib.Core.Bool.{Bool, true, false}
use mathlib.Core.Path.{◌≡◌, refl, sym, ap, ap₂, ◌∙◌}
use lib.Dec.{ltb}
use borrow.Author.Tests.{ltb-true, ltb-false}
use Rattle.walks.specs.Sums.{sum_to}
use Rattle.walks.specs.Order.{by_row}
use Rattle.walks.proofs.Sums.{sum_to_cong, sum_to_split}

-- A row of a lower state has a lower number.
pub row_lower : (g p z p' z' : ℕ) → z < g → p < p' → p * g + z < p' * g + z'
row_lower g p z p' z' hz hp = let t : suc p * g ≤ p' * g = mul-le-mul_right g hp in omega arith

-- Different rows have different numbers.
pub row_once : (g p z p' z' : ℕ) → z < g → z' < g → p * g + z ≡ p' * g + z' → (p ≡ p') × (z ≡ z')
row_once g p z p' z' hz hz' e = go (ltb p p') refl (ltb p' p) refl
  where
    go : (s : Bool) → ltb p p' ≡ s → (t : Bool) → ltb p' p ≡ t → (p ≡ p') × (z ≡ z')
    go true u t v = absurd (omega (arith, row_lower g p z p' z' hz (ltb-true p p' u)))
    go false u true v = absurd (omega (arith, row_lower g p' z' p z hz' (ltb-true p' p v)))
    go false u false v =
        let q : p ≡ p' = omega (arith, ltb-false p p' u, ltb-false p' p v) in
        let f : p' * g + z ≡ p' * g + z' = rw q at e in
        (q, omega arith)

-- So have different entries.
pub entry_once : (s g p z q p' z' q' : ℕ) → z < g → q < s → z' < g → q' < s → (p * g + z) * s + q ≡ (p' * g + z') * s + q'
    → (p ≡ p') × (z ≡ z') × (q ≡ q')
entry_once s g p z q p' z' q' hz hq hz' hq' e =
    let (row, last) = row_once s (p * g + z) q (p' * g + z') q' hq hq' e in
    let (first, second) = row_once g p z p' z' hz hz' row in
    (first, second, last)

-- Row number p × g + z is (p, z).
pub row_at_lem : (g p z : ℕ) → z < g → ((p * g + z) / g ≡ p) × ((p * g + z) % g ≡ z)
row_at_lem g p z l =
    let k : ℕ = p * g + z in
    row_once g (k / g) (k % g) p z (mod-lt k (omega arith)) l (div-add-mod' k g)

-- Every number below s × g is that of a row, and every row has such a number.
pub row_of_lem : (s g k : ℕ) → 0 < g → k < s * g → (k / g < s) × (k % g < g) × (k / g * g + k % g ≡ k)
row_of_lem s g k some h = ((div-lt_iff_lt-mul {k = g} some).1 h, mod-lt k some, div-add-mod' k g)

pub row_split : (s g k : ℕ) → k < s * g → (p : ℕ) × (z : ℕ) × (p < s) × (z < g) × (k ≡ p * g + z)
row_split s zero k h = absurd (omega arith)
row_split s (suc g) k h = let (a, b, c) = row_of_lem s (suc g) k (omega arith) h in (k / suc g, k % suc g, a, b, sym c)

pub row_below : (s g p z : ℕ) → p < s → z < g → p * g + z < s * g
row_below s g p z hp hz = omega (arith, row_lower g p z s 0 hz hp)

pub entry_below : (s g p z q : ℕ) → p < s → z < g → q < s → (p * g + z) * s + q < s * g * s
entry_below s g p z q hp hz hq = row_below (s * g) s (p * g + z) q (row_below s g p z hp hz) hq

-- A sum over the numbers of rows is the sum over each state's rows, summed.
pub sum_to_rows : (s g : ℕ) (h : ℕ → ℕ → ℕ) → sum_to (by_row g h) (s * g) ≡ sum_to (λ p. sum_to (h p) g) s
unfolding sum_to
sum_to_rows zero g h = ap (sum_to (by_row g h)) (zero-mul g)
sum_to_rows (suc s) g h =
    ap (sum_to (by_row g h)) (suc-mul s g)
    ∙ sum_to_split (by_row g h) (s * g) g
    ∙ ap₂ ◌+◌ (sum_to_rows s g h)
    (sum_to_cong _ (h s) g (λ i l. let at = row_at_lem g s i l in ap₂ h at.0 at.1))
