-- The margin as the code finds it: one share, and the least value that a loop carries from row to row.
use Prim.Native.Nat.{ℕ, zero, suc, ◌+◌, ◌-◌, ◌*◌, ◌/◌, ◌%◌, ◌≤◌, ◌<◌, min}
use native.Mathlib.Nat.{le_antisymm, le_trans, mul-div-mul_right, div-add-mod', zero-mul, zero-div}
use native.Mathlib.Numerals.{add-one}
use native.Mathlib.Omega.{arith}
use mathlib.Core.Bool.{Bool}
use mathlib.Core.List.{List}
use mathlib.Core.Path.{◌≡◌, refl, sym, ap, ap₂, ◌∙◌}
use lib.Dec.{lit<}
use lib.ListN.{get_or}
use Rattle.walks.specs.Sums.{least_to}
use Rattle.ppda.specs.Units.{chance_unit, sum_unit}
use Rattle.walks.specs.Order.{rows_in, entry_in}
use Rattle.ppda.specs.Equations.{f}
use Rattle.ppda.specs.Live.{is_live}
use Rattle.ppda.specs.Margin.{share, share_at}
use Rattle.walks.proofs.Sums.{least_to_le_top, least_to_le_term, least_to_greatest}
use Rattle.walks.proofs.Places.{row_of_lem, row_at_lem, row_below}
use Rattle.model.specs.declared.sizes.Sizes.{Sizes}
use Rattle.model.specs.Rules.{rules_of}
use Rattle.model.proofs.Accepted.{sized_fits}
use Rattle.delivery.specs.Records.{value_at}
use Rattle.delivery.specs.Numbers.{uppers_of}
use Rattle.live.specs.Clauses.{bit_of}
use Rattle.equations.specs.Clauses.{f_of}
use Rattle.shares.specs.Gap.{gap_at}
use Rattle.shares.specs.Clauses.{share_of, least_share, Standing}

-- ---- one share

-- The code's quotient is the definition's, less a common factor of 2^20.
pub share_divided : (u y : ℕ) → (u * sum_unit - y) / (u * 65536) ≡ share u y
unfolding share
share_divided u y =
    sym (mul-div-mul_right {m = chance_unit} (u * sum_unit - y) (u * 65536) (lit< tt))
    ∙ ap (λ d. (u * sum_unit - y) * chance_unit / d) (omega arith)

-- An upper that is not above f leaves nothing to divide.
pub share_none : (u y : ℕ) → u * sum_unit ≤ y → 0 ≡ share u y
unfolding share
share_none u y le =
    let e : u * sum_unit - y ≡ 0 = omega arith in
    rw (e, zero-mul) (sym (zero-div (u * sum_unit)))

-- The mark and the numbers read at exit q of row number k, which is (k / g, k % g): the part in the margin.
module _ (b : List ℕ) (s g : ℕ) (a u : List ℕ) (k q : ℕ) {x n e y : ℕ} {t : Bool} (et : t ≡ is_live x) (ex : x ≡ bit_of (get_or a k 0) q)
    (en : n ≡ value_at u e) (ee : e ≡ entry_in s k q) (ey : y ≡ f (rules_of b) s chance_unit (uppers_of s g u) (k / g) (k % g) q) where
  pub share_found : {r : ℕ} → r ≡ share_at t n y → r ≡ share_of b s g a u (k / g) (k % g) q
  unfolding uppers_of
  share_found h = rw (h, et, ex, en, ee, ey, div-add-mod' k g)

-- ---- least values by their last term

pub least_none : (top : ℕ) (h : ℕ → ℕ) → top ≡ least_to top h 0
unfolding least_to
least_none top h = refl

pub least_more : (top : ℕ) (h : ℕ → ℕ) (n : ℕ) {l x r : ℕ} → l ≡ least_to top h n → x ≡ h n → r ≡ min l x → r ≡ least_to top h (n + 1)
unfolding least_to
least_more top h n el ex er = rw (er, el, ex, add-one)

-- A least value from a lower start is the less of that start and the least value from above.
least_lower : (top r : ℕ) (h : ℕ → ℕ) (n : ℕ) → r ≤ top → least_to r h n ≡ min r (least_to top h n)
unfolding least_to
least_lower top r h zero l = omega arith
least_lower top r h (suc n) l = let e : least_to r h n ≡ min r (least_to top h n) = least_lower top r h n l in omega arith

-- ---- over rows

-- The least share of row (p, z), and of the first n rows by their numbers.
abbrev least_of_row : List ℕ → ℕ → ℕ → List ℕ → List ℕ → ℕ → ℕ → ℕ
least_of_row b s g a u p z = least_to chance_unit (share_of b s g a u p z) s

unfoldable pub least_of_rows : List ℕ → ℕ → ℕ → List ℕ → List ℕ → ℕ → ℕ
least_of_rows b s g a u n = least_to chance_unit (λ k. least_of_row b s g a u (k / g) (k % g)) n

-- Row by row, by state and symbol or by number.
rows_by_number : (top s g : ℕ) (h : ℕ → ℕ → ℕ) → 0 < g
    → least_to top (λ k. h (k / g) (k % g)) (s * g) ≡ least_to top (λ p. least_to top (h p) g) s
rows_by_number top s g h some =
    le_antisymm
    (least_to_greatest top _ s _ (least_to_le_top top _ (s * g))
    (λ p lp. least_to_greatest top _ g _ (least_to_le_top top _ (s * g))
    (λ z lz. rw (sym (ap₂ h (row_at_lem g p z lz).0 (row_at_lem g p z lz).1))
    (least_to_le_term top (λ k. h (k / g) (k % g)) (s * g) (p * g + z) (row_below s g p z lp lz)))))
    (least_to_greatest top _ (s * g) _ (least_to_le_top top _ s)
    (λ k l. let row = row_of_lem s g k some l in
    le_trans (least_to_le_term top _ s (k / g) row.0) (least_to_le_term top (h (k / g)) g (k % g) row.1)))

module _ (b : List ℕ) (s g : ℕ) (a u : List ℕ) where
  pub rows_none : chance_unit ≡ least_of_rows b s g a u 0
  unfolding least_of_rows
  rows_none = least_none chance_unit _

  pub rows_more : (n : ℕ) {least next : ℕ} → least ≡ least_of_rows b s g a u n → next ≡ least_to least (share_of b s g a u (n / g) (n % g)) s
      → next ≡ least_of_rows b s g a u (n + 1)
  unfolding least_of_rows
  rows_more n {least} e f =
      least_more chance_unit _ n e refl (f ∙ least_lower chance_unit least _ s (rw e (least_to_le_top chance_unit _ n)))

  pub rows_all : (n : ℕ) {least : ℕ} → 0 < g → n ≡ s * g → least ≡ least_of_rows b s g a u n → least ≡ least_share b s g a u
  unfolding least_of_rows least_share
  rows_all n some e f = f ∙ ap (least_to chance_unit _) e ∙ rows_by_number chance_unit s g (least_of_row b s g a u) some

-- ---- u − f(u)

module _ {b starts d : List ℕ} {n : Sizes} (standing : Standing b n starts d) {k q y v e : ℕ} (hk : k < rows_in n.states n.symbols)
    (hq : q < n.states) (ey : y ≡ f_of b n d k q) (ev : v ≡ value_at d e) (ee : e ≡ entry_in n.states k q) where
  upper_is : v ≡ uppers_of n.states n.symbols d (k / n.symbols) (k % n.symbols) q
  unfolding uppers_of
  upper_is = ev ∙ ap (value_at d) (ee ∙ ap (λ r. entry_in n.states r q) (sym (div-add-mod' k n.symbols)))

  pub gap_most : y ≤ v * sum_unit
  gap_most =
      let (hp, hz, row) = row_of_lem n.states n.symbols k (sized_fits standing.indexed.sized).some_symbols hk in
      rw (ey, upper_is) (standing.above (k / n.symbols) (k % n.symbols) q hp hz hq)

  pub gap_found : v * sum_unit - y ≡ gap_at b n.states n.symbols d (k / n.symbols) (k % n.symbols) q
  unfolding gap_at
  gap_found = rw (ey, upper_is)
