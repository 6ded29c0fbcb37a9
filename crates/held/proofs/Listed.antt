-- Lists as the register holds them: a list of h 0, h 1, … is what its length and its numbers say, so a list that the code fills is the
-- definition's, and reading it gives the vector, the rows or the file back, in the order of files and by exit.
use Prim.Native.Nat.{ℕ, zero, suc, ◌+◌, ◌-◌, ◌*◌, ◌/◌, ◌%◌, ◌≤◌, ◌<◌}
use native.Mathlib.Omega.{arith}
use mathlib.Core.Bool.{Bool, true, false, cond, false≢true}
use mathlib.Core.List.{List, ◌++◌}
use mathlib.Core.Logic.{◌⊎◌, inl, inr}
use mathlib.Core.Path.{◌≡◌, refl, sym, ap, ◌∙◌}
use lib.Dec.{eqb, ltb}
use lib.ListN.{length, get_or, take, drop, set, replicate, length-append, length-set, length-replicate, get_or-append, get_or-eq_default}
use lib.Seq.{ext_get_or, get_or-append_right, get_or-take, get_or-set_same, get_or-set_other, length-take-le}
use Rattle.std.proofs.lemmas.List.{drop-replicate}
use borrow.Author.Tests.{ltb-true, ltb-false, lt-ltb, le-ltb, eqb-true, eqb-false}
use Rattle.walks.specs.Order.{entries_in, row_at, entry_in, entry_at, exit_in, by_exit}
use Rattle.ppda.specs.Equations.{Vector, RowVector, entries, rows, SameRows, Same}
use Rattle.ppda.specs.Live.{alive}
use Rattle.walks.proofs.Lists.{get_d_zeros, length_list_to, get_d_list_to, list_to_ext}
use Rattle.walks.proofs.Numbers.{less_or_not}
use Rattle.walks.proofs.Places.{row_at_lem, row_of_lem, row_split, row_below, entry_below}
use Rattle.walks.proofs.Exits.{exit_rows, exit_at_lem, Ordered, file_ordered, exit_ordered, at_places}
use Rattle.model.specs.Format.{most_entries}
use Rattle.model.specs.Records.{states_of, symbols_of}
use Rattle.model.specs.Rules.{rules_of}
use Rattle.wellformed.specs.Verdict.{model_verdict}
use Rattle.model.specs.Clauses.{Sized}
use Rattle.wellformed.proofs.Accepted.{model_accepted}
use Rattle.delivery.specs.Records.{value_at}
use Rattle.delivery.specs.Numbers.{uppers_of}
use Rattle.delivery.specs.Clauses.{rows_of_block}
use Rattle.live.specs.Clauses.{bit_of, exit_marks, ExitsOf}
use Rattle.verdict.specs.Marks.{mark_under, live_mark}
use Rattle.held.specs.Held.{padded, listed, listed_by_exit, listed_rows, filled}
use Rattle.held.specs.Places.{entries_by_exit}
use Rattle.held.specs.Clauses.{Values, Marks}
use Rattle.outcome.specs.Outcomes.{Outcome, is_refused}
use Rattle.std.specs.Prelude.{Ok, Err}

-- ---- numbers in the first places

pub length_padded : (h : ℕ → ℕ) (n : ℕ) → length (padded h n) ≡ most_entries
unfolding padded
length_padded h n = length_list_to _ most_entries

padded_there : (h : ℕ → ℕ) (n e : ℕ) → e < most_entries → get_or (padded h n) e 0 ≡ cond (ltb e n) (h e) 0
unfolding padded
padded_there h n e lt = get_d_list_to _ most_entries e lt

pub padded_at : (h : ℕ → ℕ) (n e : ℕ) → e < n → n ≤ most_entries → get_or (padded h n) e 0 ≡ h e
padded_at h n e lt most = padded_there h n e (omega arith) ∙ rw (lt-ltb e n lt)

pub padded_is : {h : ℕ → ℕ} {n : ℕ} {l : List ℕ} → length l ≡ most_entries → ((e : ℕ) → e < n → get_or l e 0 ≡ h e)
    → ((e : ℕ) → n ≤ e → get_or l e 0 ≡ 0) → l ≡ padded h n
unfolding padded
padded_is {h} {n} {l} size value none = list_to_ext most_entries size (λ e lt. go e (ltb e n) refl)
  where
    go : (e : ℕ) (t : Bool) → ltb e n ≡ t → get_or l e 0 ≡ cond (ltb e n) (h e) 0
    go e true q = rw q (value e (ltb-true e n q))
    go e false q = rw q (none e (ltb-false e n q))

pub padded_past : (h : ℕ → ℕ) (n e : ℕ) → n ≤ e → get_or (padded h n) e 0 ≡ 0
padded_past h n e le = go (ltb e most_entries) refl
  where
    go : (t : Bool) → ltb e most_entries ≡ t → get_or (padded h n) e 0 ≡ 0
    go true q = padded_there h n e (ltb-true e most_entries q) ∙ rw (le-ltb e n le)
    go false q = get_or-eq_default (padded h n) 0 (rw (length_padded h n) (ltb-false e most_entries q))

-- The same numbers make the same list.
pub padded_cong : (h k : ℕ → ℕ) (n : ℕ) → n ≤ most_entries → ((e : ℕ) → e < n → h e ≡ k e) → padded h n ≡ padded k n
padded_cong h k n most same =
    padded_is (length_padded h n) (λ e lt. padded_at h n e lt most ∙ same e lt) (padded_past h n)

-- The first n numbers, then one more.
pub padded_none : (h : ℕ → ℕ) (n : ℕ) → n ≡ most_entries → replicate n 0 ≡ padded h 0
padded_none h n e = padded_is (length-replicate {A = ℕ} n 0 ∙ e) (λ i lt. absurd (omega arith)) (λ i le. get_d_zeros n i)

pub padded_step : (h : ℕ → ℕ) (n : ℕ) {l : List ℕ} {v : ℕ} → l ≡ padded h n → n < most_entries → v ≡ h n → set l n v ≡ padded h (n + 1)
padded_step h n {l} {v} is room e =
    rw (is, e)
    (padded_is (length-set (padded h n) n (h n) ∙ length_padded h n) (λ i lt. go i lt (eqb i n) refl)
    (λ i le. get_or-set_other (padded h n) n i (h n) 0 (λ q. omega arith) ∙ padded_past h n i (omega arith)))
  where
    go : (i : ℕ) → i < n + 1 → (t : Bool) → eqb i n ≡ t → get_or (set (padded h n) n (h n)) i 0 ≡ h i
    go i lt true q =
        let same : i ≡ n = eqb-true i n q in
        rw same (get_or-set_same (padded h n) n (h n) 0 (rw (length_padded h n) room))
    go i lt false q =
        let apart : i ≡ n → ⊥ = eqb-false i n q in
        get_or-set_other (padded h n) n i (h n) 0 apart ∙ padded_at h n i (omega arith) (omega arith)

pub padded_end : (h : ℕ → ℕ) {n m : ℕ} {l : List ℕ} → l ≡ padded h n → n ≡ m → l ≡ padded h m
padded_end h is e = is ∙ ap (padded h) e

-- ---- a vector in an order of entries: in file order, or by exit

module _ {s g : ℕ} {place : ℕ → ℕ → ℕ → ℕ} {by : Vector → ℕ → ℕ} (o : Ordered s g place by) (v : Vector) where
  -- A list with the numbers of v at the entries' places, and 0 from there on, is v as the register holds it.
  pub listed_is : {l : List ℕ} → length l ≡ most_entries → Same s g (λ p z q. get_or l (place p z q) 0) v → ((e : ℕ) → s * g * s ≤ e → get_or l e 0 ≡ 0)
      → l ≡ padded (by v) (s * g * s)
  listed_is {l} size same none =
      padded_is size
      (at_places o (λ e. get_or l e 0 ≡ by v e) (λ p z q hp hz hq. same p z q hp hz hq ∙ sym (o.stands v p z q hp hz hq)))
      none

  -- Vectors with the same numbers at the entries are held as the same list.
  pub listed_cong : (u : Vector) → s * g * s ≤ most_entries → Same s g v u → padded (by v) (s * g * s) ≡ padded (by u) (s * g * s)
  listed_cong u most same =
      padded_cong (by v) (by u) (s * g * s) most
      (at_places o (λ e. by v e ≡ by u e)
      (λ p z q hp hz hq. o.stands v p z q hp hz hq ∙ same p z q hp hz hq ∙ sym (o.stands u p z q hp hz hq)))

  -- What no number of the vector is above, no number of the list is.
  pub listed_most : (a e : ℕ) → s * g * s ≤ most_entries → ((p z q : ℕ) → p < s → z < g → q < s → v p z q ≤ a) → get_or (padded (by v) (s * g * s)) e 0 ≤ a
  listed_most a e most range = go (less_or_not e (s * g * s))
    where
      at : (e : ℕ) → e < s * g * s → by v e ≤ a
      at = at_places o (λ e. by v e ≤ a) (λ p z q hp hz hq. rw (o.stands v p z q hp hz hq) (range p z q hp hz hq))

      go : (e < s * g * s) ⊎ (s * g * s ≤ e) → get_or (padded (by v) (s * g * s)) e 0 ≤ a
      go (inl lt) = rw (padded_at (by v) (s * g * s) e lt most) (at e lt)
      go (inr le) = rw (padded_past (by v) (s * g * s) e le) (omega arith)

  pub listed_at : (p z q : ℕ) → p < s → z < g → q < s → s * g * s ≤ most_entries → get_or (padded (by v) (s * g * s)) (place p z q) 0 ≡ v p z q
  listed_at p z q hp hz hq most =
      padded_at (by v) (s * g * s) (place p z q) (o.below p z q hp hz hq) most ∙ o.stands v p z q hp hz hq

-- Request A.6: for any vector, the two ways of holding it give the same number for every entry.
pub held_either_way : (s g : ℕ) (v : Vector) → s * g * s ≤ most_entries → Same s g (entries_by_exit s g (listed_by_exit s g v)) (entries s g (listed s g v))
held_either_way s g v most p z q hp hz hq =
    listed_at (exit_ordered s g) v p z q hp hz hq most ∙ sym (listed_at (file_ordered s g) v p z q hp hz hq most)

pub live_listed : (s g : ℕ) (v : Vector) {l : List ℕ} → Marks s g v l → l ≡ listed s g v
live_listed s g v marks = listed_is (file_ordered s g) v marks.size marks.marks marks.none

-- ---- rows in file order

-- Nothing lies below a product with 0.
some_of_product : (n m k : ℕ) → k < n * m → 0 < m
some_of_product n zero k lt = absurd (omega arith)
some_of_product n (suc m) k lt = omega arith

module _ (s g : ℕ) (r : RowVector) where
  pub rows_is : {l : List ℕ} → length l ≡ most_entries → SameRows s g (rows g l) r → ((k : ℕ) → s * g ≤ k → get_or l k 0 ≡ 0)
      → l ≡ listed_rows s g r
  rows_is {l} size same none =
      padded_is size
      (λ k lt.
      let (first, second, place) = row_of_lem s g k (some_of_product s g k lt) lt in
      ap (λ j. get_or l j 0) (sym place) ∙ same (k / g) (k % g) first second)
      none

  pub rows_cong : (t : RowVector) → s * g ≤ most_entries → SameRows s g r t → listed_rows s g r ≡ listed_rows s g t
  rows_cong t most same =
      padded_cong _ _ (s * g) most
      (λ k lt. let (first, second, place) = row_of_lem s g k (some_of_product s g k lt) lt in same (k / g) (k % g) first second)

  pub rows_at : (p z : ℕ) → p < s → z < g → s * g ≤ most_entries → rows g (listed_rows s g r) p z ≡ r p z
  rows_at p z hp hz most =
      let (first, second) = row_at_lem g p z hz in
      padded_at _ (s * g) (p * g + z) (row_below s g p z hp hz) most ∙ rw (first, second)

-- ---- the bytes of a file in the first of n places

pub length_filled : (n : ℕ) (b : List ℕ) → length (filled n b) ≡ n
unfolding filled
length_filled n b = length_list_to _ n

-- The file is in the first places.
pub filled_back : (n : ℕ) (b : List ℕ) → length b ≤ n → take (length b) (filled n b) ≡ b
unfolding filled
filled_back n b fits =
    let size : length (take (length b) (filled n b)) ≡ length b = length-take-le (length b) (filled n b) (rw (length_filled n b) fits) in
    ext_get_or 0 _ b size
    (λ i lt.
    let under : i < length b = omega arith in
    get_or-take (length b) (filled n b) i 0 under ∙ get_d_list_to _ n i (omega arith))

-- The file, and zeros up to the last place.
pub filled_by : (n : ℕ) (b : List ℕ) → length b ≤ n → b ++ drop (length b) (replicate n 0) ≡ filled n b
unfolding filled
filled_by n b fits =
    rw (drop-replicate {X = ℕ} (length b) n 0)
    (list_to_ext n (omega (arith, length-append b (replicate (n - length b) 0), length-replicate {A = ℕ} (n - length b) 0)) (λ e lt. go e (less_or_not e (length b))))
  where
    go : (e : ℕ) → (e < length b) ⊎ (length b ≤ e) → get_or (b ++ replicate (n - length b) 0) e 0 ≡ get_or b e 0
    go e (inl lt) = get_or-append b (replicate (n - length b) 0) 0 e lt
    go e (inr le) = get_or-append_right b (replicate (n - length b) 0) e 0 le ∙ get_d_zeros (n - length b) (e - length b) ∙ sym (get_or-eq_default b 0 le)

-- ---- the values of the first n records

pub values_none : (d : List ℕ) → Values d 0 (replicate most_entries 0)
values_none d = record { size = length-replicate {A = ℕ} most_entries 0; value = λ e h. absurd (omega arith); none = λ e h. get_d_zeros most_entries e }

pub values_rows : (s g : ℕ) {d l : List ℕ} → Values d (s * g) l → SameRows s g (rows g l) (rows_of_block g d)
values_rows s g values p z hp hz = values.value (row_at g p z) (row_below s g p z hp hz)

-- ---- the values of the entries by exit

-- The number at the place of row k and exit q is the value of the record there.
pub exit_value_lem : (s g k q : ℕ) (d : List ℕ) → k < s * g → value_at d (entry_in s k q) ≡ by_exit s g (uppers_of s g d) (exit_in s g k q)
unfolding uppers_of
exit_value_lem s g k q d hk =
    let (p, z, hp, hz, here) = row_split s g k hk in
    rw (here, ← exit_rows s g p z q)
    (let (state, symbol, exit) = exit_at_lem s g p z q hp hz in rw (state, symbol, exit))

-- With the number of one row more in its place, those of exit q go one place further.
pub exits_more : (s g k q : ℕ) (h : ℕ → ℕ) {i v : ℕ} {l : List ℕ} → l ≡ padded h (exit_in s g k q) → i ≡ exit_in s g k q → exit_in s g k q < most_entries
    → v ≡ h (exit_in s g k q) → set l i v ≡ padded h (exit_in s g (k + 1) q)
exits_more s g k q h is at room e = rw at (padded_end h (padded_step h (exit_in s g k q) is room e) (omega arith))

-- ---- the marks by entries

-- The list has the marks of the entries before e, and 0 from there on.
pub record EntriesTo (s : ℕ) (live : List ℕ) (e : ℕ) (l : List ℕ) : Type 0 where
  pub size : length l ≡ most_entries
  pub done : (i : ℕ) → i < e → get_or l i 0 ≡ bit_of (get_or live (i / s) 0) (i % s)
  pub none : (i : ℕ) → e ≤ i → get_or l i 0 ≡ 0

pub entries_none : (s : ℕ) (live : List ℕ) (n : ℕ) → n ≡ most_entries → EntriesTo s live 0 (replicate n 0)
entries_none s live n size =
    record { size = length-replicate n 0 ∙ size; done = λ i h. absurd (omega arith); none = λ i h. get_d_zeros n i }

module _ {s : ℕ} {live : List ℕ} {e : ℕ} {l : List ℕ} (to : EntriesTo s live e l) where
  pub entries_all : (g : ℕ) → e ≡ entries_in s g → Marks s g (exit_marks g live) l
  entries_all g all =
      record { size = to.size; marks = marks; none = λ i h. to.none i (omega arith) }
    where
      marks : Same s g (entries s g l) (exit_marks g live)
      marks p z q hp hz hq =
          let (row, exit) = row_at_lem s (row_at g p z) q hq in
          to.done (entry_at s g p z q) (omega (arith, entry_below s g p z q hp hz hq))
          ∙ rw (row, exit)

-- ---- the live marks that are shown

-- Nothing of a refused model is live.
no_mark : (o : Outcome) (a : ℕ) → is_refused o ≡ true → mark_under o a ≡ 0
no_mark (Ok u) a e = absurd (false≢true e)
no_mark (Err why) a e = refl

pub none_live : (b : List ℕ) (n : ℕ) → is_refused (model_verdict b) ≡ true → n ≡ most_entries
    → Marks (states_of b) (symbols_of b) (live_mark b) (replicate n 0)
unfolding live_mark
none_live b n e size =
    record {
      size = length-replicate n 0 ∙ size;
      marks = λ p z q hp hz hq. get_d_zeros n _ ∙ sym (no_mark (model_verdict b) _ e);
      none = λ i h. get_d_zeros n i;
    }

-- The marks of an accepted model.
pub live_of : {b live l : List ℕ} {s g : ℕ} → Sized b s g → ExitsOf s g (alive (rules_of b) s g) live → Marks s g (exit_marks g live) l
    → Marks (states_of b) (symbols_of b) (live_mark b) l
unfolding live_mark
live_of {b} sized found marked =
    let hs = sized.states in
    let hg = sized.symbols in
    record {
      size = marked.size;
      marks = λ p z q hp hz hq.
          rw ((model_accepted b).1 sized.file, ← hs, ← hg)
          (marked.marks p z q (rw hs hp) (rw hg hz) (rw hs hq) ∙ found.marks p z q (rw hs hp) (rw hg hz) (rw hs hq));
      none = rw (← hs, ← hg) marked.none;
    }
