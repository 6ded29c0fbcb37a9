-- Sums record by record over one row's range are the theory's sums over the row, and stay within their limits.
use Prim.Native.Nat.{ℕ, zero, suc, ◌+◌, ◌*◌, ◌/◌, ◌%◌, ◌≤◌, ◌<◌}
use native.Mathlib.Nat.{le_refl, le_trans, zero-mul, mul-le-mul_left, mul-le-mul_right}
use native.Mathlib.Omega.{arith}
use mathlib.Core.List.{List}
use mathlib.Core.Path.{◌≡◌, refl, sym, ap, ap₂, ◌∙◌}
use lib.Dec.{eqb}
use lib.ListN.{get_or}
use borrow.Author.Tests.{eq-eqb, ne_eqb}
use Rattle.walks.proofs.Places.{row_of_lem, row_below}
use Rattle.walks.specs.Sums.{bit, sum_to}
use Rattle.ppda.specs.Units.{weight_unit}
use Rattle.ppda.specs.Rules.{Push, nothing, one, two, fits, over_row}
use Rattle.walks.proofs.Sums.{sum_to_none, sum_to_past, sum_to_step, sum_to_le, sum_to_mono, sum_to_grows}
use Rattle.ppda.proofs.Rows.{row_const}
use Rattle.model.specs.Format.{most_states}
use Rattle.model.specs.Records.{records_of, target, weight}
use Rattle.model.specs.Rules.{push_of, push_at, rule_of, rules_of, row_of}
use Rattle.model.proofs.Records.{over_row_lem}
use Rattle.model.proofs.Rows.{row_fits}
use Rattle.model.proofs.Accepted.{sized_fits}
use Rattle.model.specs.Clauses.{StartsAt, Sized}
use Rattle.rows.specs.Clauses.{Starts}
use Rattle.rows.proofs.Ranges.{starts_ascend}

-- ---- a sum over states

pub sum_most : (h : ℕ → ℕ) (t c : ℕ) → t ≤ most_states → ((r : ℕ) → h r ≤ c) → sum_to h t ≤ most_states * c
sum_most h t c few most = le_trans (sum_to_le h c t (λ r l. most r)) (mul-le-mul_right c few)

-- n is the sum of h over the states before t.
pub record StateSum (h : ℕ → ℕ) (s t n : ℕ) : Type 0 where
  pub to : t ≤ s
  pub sum : n ≡ sum_to h t

pub states_none : {h : ℕ → ℕ} {s : ℕ} → StateSum h s 0 0
states_none = record { to = omega arith; sum = sym (sum_to_none _) }

module _ {h : ℕ → ℕ} {s t n : ℕ} (at : StateSum h s t n) where
  pub states_more : {a : ℕ} → t < s → a ≡ h t → StateSum h s (t + 1) (n + a)
  states_more l e = record { to = omega arith; sum = ap₂ ◌+◌ at.sum e ∙ sym (sum_to_step h t) }

  pub states_end : s ≤ t → n ≡ sum_to h s
  states_end l = let e : t ≡ s = omega (arith, at.to) in at.sum ∙ ap (sum_to h) e

  pub states_within : (c : ℕ) → s ≤ most_states → ((r : ℕ) → h r ≤ c) → n ≤ most_states * c
  states_within c few most = rw at.sum (sum_most h t c (omega (arith, at.to)) most)

-- ---- what a record pushes, by its L

pub pushes_nothing : (l y x : ℕ) → l ≡ 0 → push_of l y x ≡ nothing
pushes_nothing l y x e = rw e

pub pushes_one : (l y x : ℕ) → l ≡ 1 → push_of l y x ≡ one y
pushes_one l y x e = rw e

pub pushes_two : (l y x : ℕ) → (l ≡ 0 → ⊥) → (l ≡ 1 → ⊥) → push_of l y x ≡ two y x
pushes_two zero y x none single = absurd (none refl)
pushes_two (suc zero) y x none single = absurd (single refl)
pushes_two (suc (suc l)) y x none single = refl

-- ---- a sum over a row, record by record

-- What record i adds to the sum over row (p, z) of the weight times h.
abbrev pub addend : List ℕ → ℕ → ℕ → (ℕ → Push → ℕ) → ℕ → ℕ
addend b p z h i = bit (fits (rule_of b i) p z) * (weight b i * h (target b i) (push_at b i))

-- n is o and the sum, over the records of row (p, z) before record i, of the weight times h. The row has the number k and the records from
-- a to e.
pub record RowSum (b : List ℕ) (s g p z : ℕ) (h : ℕ → Push → ℕ) (k a e o i n : ℕ) : Type 0 where
  pub sized : Sized b s g
  pub state : p < s
  pub symbol : z < g
  pub number : k ≡ p * g + z
  pub start : StartsAt b g k a
  pub end : StartsAt b g (k + 1) e
  pub from : a ≤ i
  pub to : i ≤ e
  pub sum : n ≡ o + sum_to (addend b p z h) i

module _ (b : List ℕ) (s g : ℕ) (sized : Sized b s g) (p z k : ℕ) (symbol : z < g) (number : k ≡ p * g + z) (h : ℕ → Push → ℕ) where
  row_test : (i : ℕ) → i < records_of b → fits (rule_of b i) p z ≡ eqb (row_of b g i) k
  row_test i l = rw (number, sized.symbols) (row_fits b i p z l (rw sized.symbols at symbol))

  same_row : (i : ℕ) → i < records_of b → row_of b g i ≡ k → addend b p z h i ≡ weight b i * h (target b i) (push_at b i)
  same_row i l e = rw (row_test i l, eq-eqb (row_of b g i) k e) (omega arith)

  other_row : (i : ℕ) → i < records_of b → (row_of b g i ≡ k → ⊥) → addend b p z h i ≡ 0
  other_row i l ne = rw (row_test i l, ne_eqb (row_of b g i) k ne) (zero-mul (weight b i * h (target b i) (push_at b i)))

  -- Nothing of the row lies before its start.
  before_start : (a : ℕ) → StartsAt b g k a → sum_to (addend b p z h) a ≡ 0
  before_start a start =
      sym (sum_to_past (addend b p z h) 0 a (omega arith)
      (λ i c l. other_row i (omega (arith, start.within)) (λ q. omega (arith, start.before i l))))
      ∙ sum_to_none (addend b p z h)

  -- Nothing of the row lies after its end.
  after_end : (e : ℕ) → StartsAt b g (k + 1) e → sum_to (addend b p z h) e ≡ over_row (rules_of b) p z (λ r. h r.target r.push)
  unfolding rule_of
  after_end e end =
      sum_to_past (addend b p z h) e (records_of b) end.within (λ i c l. other_row i l (λ q. omega (arith, end.after i c l)))
      ∙ sym (over_row_lem b p z (λ r. h r.target r.push))

  -- A row's weights sum to 65,536.
  whole_row : (c : ℕ) → p < s → ((r : ℕ) (x : Push) → h r x ≤ c) → sum_to (addend b p z h) (records_of b) ≤ c * weight_unit
  whole_row c state most =
      le_trans
      (sum_to_mono (addend b p z h) (λ i. bit (fits (rule_of b i) p z) * (weight b i * c)) (records_of b)
      (λ i l. mul-le-mul_left (bit (fits (rule_of b i) p z)) (mul-le-mul_left (weight b i) (most (target b i) (push_at b i)))))
      (omega (
        arith,
        over_row_lem b p z (λ r. c),
        row_const (rules_of b) p z c,
        ap (λ n. c * n) (sized.file.row p z (rw sized.states at state) (rw sized.symbols at symbol)),
      ))

row_none : (b : List ℕ) (s g p z k o : ℕ) (h : ℕ → Push → ℕ) (l : List ℕ) → Sized b s g → Starts b g (s * g) l → p < s → z < g
    → k ≡ p * g + z → RowSum b s g p z h k (get_or l k 0) (get_or l (k + 1) 0) o (get_or l k 0) o
row_none b s g p z k o h l sized starts state symbol number =
    let below : k < s * g = rw number (row_below s g p z state symbol) in
    let start : StartsAt b g k (get_or l k 0) = starts k (omega arith) in
    let end : StartsAt b g (k + 1) (get_or l (k + 1) 0) = starts (k + 1) (omega arith) in
    record {
      sized = sized;
      state = state;
      symbol = symbol;
      number = number;
      start = start;
      end = end;
      from = le_refl _;
      to = starts_ascend start end;
      sum = omega (arith, before_start b s g sized p z k symbol number h (get_or l k 0) start);
    }

-- Row number k is row (k / g, k % g).
pub row_begin : {b : List ℕ} {s g : ℕ} (k o : ℕ) (h : ℕ → Push → ℕ) (l : List ℕ) → Sized b s g → Starts b g (s * g) l → k < s * g
    → RowSum b s g (k / g) (k % g) h k (get_or l k 0) (get_or l (k + 1) 0) o (get_or l k 0) o
row_begin {b} {s} {g} k o h l sized starts below =
    let (state, symbol, number) = row_of_lem s g k (sized_fits sized).some_symbols below in
    row_none b s g (k / g) (k % g) k o h l sized starts state symbol (sym number)

module _ {b : List ℕ} {s g p z : ℕ} {h : ℕ → Push → ℕ} {k a e o i n : ℕ} (at : RowSum b s g p z h k a e o i n) where
  pub row_record : i < e → i < records_of b
  row_record l = le_trans l at.end.within

  pub row_more : {w t : ℕ} → i < e → w ≡ weight b i → t ≡ h (target b i) (push_at b i) → RowSum b s g p z h k a e o (i + 1) (n + w * t)
  row_more {w} {t} l hw ht =
      let same : row_of b g i ≡ k = omega (arith, at.start.after i at.from (row_record l), at.end.before i l) in
      let added : addend b p z h i ≡ w * t =
      same_row b s g at.sized p z k at.symbol at.number h i (row_record l) same ∙ sym (ap₂ ◌*◌ hw ht) in
      record {
        sized = at.sized;
        state = at.state;
        symbol = at.symbol;
        number = at.number;
        start = at.start;
        end = at.end;
        from = omega (arith, at.from);
        to = omega arith;
        sum = omega (arith, at.sum, sum_to_step (addend b p z h) i, added);
      }

  -- A record that adds nothing.
  pub row_skip : i < e → h (target b i) (push_at b i) ≡ 0 → RowSum b s g p z h k a e o (i + 1) n
  row_skip l none = let same : n + weight b i * 0 ≡ n = omega arith in rw same at (row_more l refl (sym none))

  pub row_end : e ≤ i → n ≡ o + over_row (rules_of b) p z (λ r. h r.target r.push)
  row_end l =
      let last : i ≡ e = omega (arith, at.to) in
      at.sum ∙ ap (λ m. o + m) (ap (sum_to (addend b p z h)) last ∙ after_end b s g at.sized p z k at.symbol at.number h e at.end)

  pub row_within : (c : ℕ) → ((r : ℕ) (x : Push) → h r x ≤ c) → n ≤ o + c * weight_unit
  row_within c most =
      omega (
        arith,
        at.sum,
        sum_to_grows (addend b p z h) i (records_of b) (le_trans at.to at.end.within),
        whole_row b s g at.sized p z k at.symbol at.number h c at.state most,
      )
