-- What holds of every number below a bound, or at every element of a list; lists of zeros; the laws of membership, of lists made by walks, and of sums over
-- all lists of a length.
use Prim.Native.Nat.{ℕ, zero, suc, ◌+◌, ◌*◌, ◌<◌}
use native.Mathlib.Nat.{not-suc-le-zero, eq-or-lt_of_le, le_of_suc-le-suc, le_refl, add-zero, add-suc, zero-mul, suc-mul}
use native.Mathlib.Omega.{arith}
use mathlib.Core.Path.{◌≡◌, refl, sym, ap, ap₂, subst, ◌∙◌}
use mathlib.Core.Bool.{Bool, true, false, ◌&&◌, and-eq-true_iff}
use mathlib.Core.List.{List, [], ◌∷◌, ◌++◌, map, flat_map, append_assoc, append-nil, map-append}
use mathlib.Core.Logic.{◌⊎◌, inl, inr}
use lib.Dec.{eqb}
use lib.ListN.{length, get_or, replicate, length-append, get_or-append}
use lib.Seq.{ext_get_or, get_or_at, get_or-append-add}
use borrow.Author.Tests.{eqb-true, eqb-false}
use Rattle.walks.specs.Sums.{sum, sum_to, In}
use Rattle.walks.specs.Lists.{list_to, each, lists}
use Rattle.walks.proofs.Sums.{sum_append, sum_cong, sum_map, sum_flat_map, last_or_below}
use Rattle.walks.proofs.Places.{row_below}

-- P holds of every number below n.
abbrev pub AllTo : (ℕ → Type 0) → ℕ → Type 0
AllTo P zero = Unit {0}
AllTo P (suc n) = AllTo P n × P n

pub all_to_lem : (P : ℕ → Type 0) (n : ℕ) → AllTo P n → (i : ℕ) → i < n → P i
all_to_lem P zero a i b = absurd (not-suc-le-zero b)
all_to_lem P (suc n) a i b = elim (eq-or-lt_of_le (le_of_suc-le-suc b)) [ inl e ↦ subst P (sym e) a.1 | inr c ↦ all_to_lem P n a.0 i c ]

-- And of all rows and entries of s states and g symbols.
pub at_rows : (s g : ℕ) (P : ℕ → ℕ → Type 0) → AllTo (λ p. AllTo (P p) g) s → (p z : ℕ) → p < s → z < g → P p z
at_rows s g P a p z hp = all_to_lem (P p) g (all_to_lem (λ p. AllTo (P p) g) s a p hp) z

pub at_entries : (s g : ℕ) (P : ℕ → ℕ → ℕ → Type 0) → AllTo (λ p. AllTo (λ z. AllTo (P p z) s) g) s
    → (p z q : ℕ) → p < s → z < g → q < s → P p z q
at_entries s g P a p z q hp hz = all_to_lem (P p z) s (at_rows s g (λ p z. AllTo (P p z) s) a p z hp hz) q

-- A list of zeros has 0 everywhere, and past its end too.
pub get_d_zeros : (n e : ℕ) → get_or {A = ℕ} (replicate n 0) e 0 ≡ 0
get_d_zeros zero e = refl
get_d_zeros (suc n) zero = refl
get_d_zeros (suc n) (suc e) = get_d_zeros n e

-- The numbers of a vector, or of rows, in file order.
unfoldable pub in_order : ℕ → ℕ → (ℕ → ℕ → ℕ → ℕ) → List ℕ
in_order s g v = each s (λ p. each g (λ z. list_to (v p z) s))

unfoldable pub rows_in_order : ℕ → ℕ → (ℕ → ℕ → ℕ) → List ℕ
rows_in_order s g r = each s (λ p. list_to (r p) g)

module _ {A : Type 0} where
  -- The test passes at every element.
  abbrev pub every : (A → Bool) → List A → Bool
  every test [] = true
  every test (x ∷ l) = test x && every test l

  pub in_every : (test : A → Bool) (l : List A) → every test l ≡ true → (x : A) → In x l → test x ≡ true
  in_every test [] e x i = elim i [ ]
  in_every test (y ∷ l) e x (inl i) = rw i ((and-eq-true_iff (test y) (every test l)).0 e).0
  in_every test (y ∷ l) e x (inr i) = in_every test l ((and-eq-true_iff (test y) (every test l)).0 e).1 x i

  pub in_append_left : (x : A) (k l : List A) → In x k → In x (k ++ l)
  in_append_left x [] l i = elim i [ ]
  in_append_left x (y ∷ k) l (inl e) = inl e
  in_append_left x (y ∷ k) l (inr i) = inr (in_append_left x k l i)

  pub in_append_right : (x : A) (k l : List A) → In x l → In x (k ++ l)
  in_append_right x [] l i = i
  in_append_right x (y ∷ k) l i = inr (in_append_right x k l i)

  pub in_append_cases : (x : A) (k l : List A) → In x (k ++ l) → In x k ⊎ In x l
  in_append_cases x [] l i = inr i
  in_append_cases x (y ∷ k) l (inl e) = inl (inl e)
  in_append_cases x (y ∷ k) l (inr i) = elim (in_append_cases x k l i) [ inl a ↦ inl (inr a) | inr b ↦ inr b ]

module _ {A B : Type 0} where
  pub in_map : (k : A → B) (x : A) (l : List A) → In x l → In (k x) (map k l)
  in_map k x [] i = elim i [ ]
  in_map k x (y ∷ l) (inl e) = inl (ap k e)
  in_map k x (y ∷ l) (inr i) = inr (in_map k x l i)

  pub of_in_map : (k : A → B) (y : B) (l : List A) → In y (map k l) → (x : A) × In x l × (y ≡ k x)
  of_in_map k y [] i = elim i [ ]
  of_in_map k y (x ∷ l) (inl e) = (x, inl refl, e)
  of_in_map k y (x ∷ l) (inr i) = let t = of_in_map k y l i in (t.0, inr t.1, t.2)

  pub in_flat_map : (k : A → List B) (x : A) (y : B) (l : List A) → In x l → In y (k x) → In y (flat_map k l)
  unfolding flat_map
  in_flat_map k x y [] i j = elim i [ ]
  in_flat_map k x y (w ∷ l) (inl e) j = in_append_left y (k w) (flat_map k l) (rw e at j)
  in_flat_map k x y (w ∷ l) (inr i) j = in_append_right y (k w) (flat_map k l) (in_flat_map k x y l i j)

  pub of_in_flat_map : (k : A → List B) (y : B) (l : List A) → In y (flat_map k l) → (x : A) × In x l × In y (k x)
  unfolding flat_map
  of_in_flat_map k y [] i = elim i [ ]
  of_in_flat_map k y (x ∷ l) i = go (in_append_cases y (k x) (flat_map k l) i) (of_in_flat_map k y l)
    where
      go : In y (k x) ⊎ In y (flat_map k l) → (In y (flat_map k l) → (w : A) × In w l × In y (k w)) → (w : A) × In w (x ∷ l) × In y (k w)
      go (inl a) rest = (x, inl refl, a)
      go (inr b) rest = let t = rest b in (t.0, inr t.1, t.2)

-- ---- h 0, h 1, …, h (n − 1)

pub list_to_sum : {A : Type 0} (k : A → ℕ) (h : ℕ → A) (n : ℕ) → sum k (list_to h n) ≡ sum_to (λ i. k (h i)) n
unfolding sum sum_to list_to
list_to_sum k h zero = refl
list_to_sum k h (suc n) = sum_append k (list_to h n) (h n ∷ []) ∙ rw (list_to_sum k h n) (omega arith)

pub in_list_to : {A : Type 0} (h : ℕ → A) (n : ℕ) (x : A) → In x (list_to h n) → (i : ℕ) × (i < n) × (x ≡ h i)
unfolding list_to
in_list_to {A = A} h zero x e = elim e [ ]
in_list_to h (suc n) x e = go (in_append_cases x (list_to h n) (h n ∷ []) e) (in_list_to h n x)
  where
    go : In x (list_to h n) ⊎ In x (h n ∷ []) → (In x (list_to h n) → (i : ℕ) × (i < n) × (x ≡ h i)) → (i : ℕ) × (i < suc n) × (x ≡ h i)
    go (inl a) rest = let t = rest a in (t.0, omega (arith, t.1), t.2)
    go (inr (inr i)) rest = elim i [ ]
    go (inr (inl q)) rest = (n, le_refl (suc n), q)

pub length_list_to : {A : Type 0} (h : ℕ → A) (n : ℕ) → length (list_to h n) ≡ n
unfolding list_to
length_list_to h zero = refl
length_list_to h (suc n) = length-append (list_to h n) _ ∙ rw (length_list_to h n) (omega arith)

pub get_d_list_to : (h : ℕ → ℕ) (n e : ℕ) → e < n → get_or (list_to h n) e 0 ≡ h e
unfolding list_to
get_d_list_to h zero e lt = absurd (omega arith)
get_d_list_to h (suc n) e lt = go (eqb e n) refl (get_d_list_to h n e)
  where
    go : (t : Bool) → eqb e n ≡ t → (e < n → get_or (list_to h n) e 0 ≡ h e) → get_or (list_to h (suc n)) e 0 ≡ h e
    go true q before = let r : e ≡ n = eqb-true e n q in rw r (get_or_at (list_to h n) (h n) [] 0 n (length_list_to h n))
    go false q before =
        let r : e ≡ n → ⊥ = eqb-false e n q in
        let under : e < n = omega arith in
        get_or-append (list_to h n) _ 0 e (rw (length_list_to h n) under) ∙ before under

-- A list is told by its length and its numbers.
pub list_to_ext : {h : ℕ → ℕ} {l : List ℕ} (n : ℕ) → length l ≡ n → ((e : ℕ) → e < n → get_or l e 0 ≡ h e) → l ≡ list_to h n
list_to_ext {h} {l} n size value =
    ext_get_or 0 l (list_to h n) (size ∙ sym (length_list_to h n))
    (λ e lt. let under : e < n = omega arith in value e under ∙ sym (get_d_list_to h n e under))

pub list_to_cong : {A : Type 0} (h k : ℕ → A) (n : ℕ) → ((i : ℕ) → h i ≡ k i) → list_to h n ≡ list_to k n
unfolding list_to
list_to_cong h k zero e = refl
list_to_cong h k (suc n) e = ap₂ (λ l x. l ++ (x ∷ [])) (list_to_cong h k n e) (e n)

pub map_list_to : {A B : Type 0} (k : A → B) (h : ℕ → A) (n : ℕ) → map k (list_to h n) ≡ list_to (λ i. k (h i)) n
unfolding list_to
map_list_to k h zero = refl
map_list_to k h (suc n) = map-append k (list_to h n) (h n ∷ []) ∙ ap (λ l. l ++ (k (h n) ∷ [])) (map_list_to k h n)

-- The first of the list, and the others.
pub list_to_first : {A : Type 0} (h : ℕ → A) (n : ℕ) → list_to h (suc n) ≡ h 0 ∷ list_to (λ i. h (suc i)) n
unfolding list_to
list_to_first h zero = refl
list_to_first h (suc n) = ap (λ l. l ++ (h (suc n) ∷ [])) (list_to_first h n)

-- ---- lists one after the other

module _ {A : Type 0} where
  -- Equal lists at each number below n are equal lists in all.
  pub each_cong : (h k : ℕ → List A) (n : ℕ) → ((i : ℕ) → i < n → h i ≡ k i) → each n h ≡ each n k
  unfolding each
  each_cong h k zero e = refl
  each_cong h k (suc n) e = ap₂ ◌++◌ (each_cong h k n (λ i l. e i (omega arith))) (e n (omega arith))

  -- The first a, then b more.
  each_append : (a b : ℕ) (h : ℕ → List A) → each a h ++ each b (λ j. h (a + j)) ≡ each (a + b) h
  unfolding each
  each_append a zero h = append-nil (each a h) ∙ ap (λ n. each n h) (sym (add-zero a))
  each_append a (suc b) h =
      sym (append_assoc (each a h) (each b (λ j. h (a + j))) (h (a + b))) ∙ ap (λ l. l ++ h (a + b)) (each_append a b h)
      ∙ ap (λ n. each n h) (sym (add-suc a b))

  -- n times m lists, nested and in one sequence.
  pub each_flat : (n m : ℕ) (h : ℕ → List A) → each n (λ i. each m (λ j. h (i * m + j))) ≡ each (n * m) h
  unfolding each
  each_flat zero m h = ap (λ k. each k h) (sym (zero-mul m))
  each_flat (suc n) m h =
      ap (λ l. l ++ each m (λ j. h (n * m + j))) (each_flat n m h) ∙ each_append (n * m) m h ∙ ap (λ k. each k h) (sym (suc-mul n m))

-- Lists of one length w.
module _ (w : ℕ) (h : ℕ → List ℕ) where
  pub length_each : (n : ℕ) → ((i : ℕ) → i < n → length (h i) ≡ w) → length (each n h) ≡ n * w
  unfolding each
  length_each zero size = sym (zero-mul w)
  length_each (suc n) size =
      length-append (each n h) (h n) ∙ omega (arith, length_each n (λ i l. size i (omega arith)), size n (omega arith))

  -- Number k of list i.
  pub get_d_each : (n : ℕ) → ((i : ℕ) → i < n → length (h i) ≡ w) → (i k : ℕ) → i < n → k < w
      → get_or (each n h) (i * w + k) 0 ≡ get_or (h i) k 0
  unfolding each
  get_d_each zero size i k l lk = absurd (omega arith)
  get_d_each (suc n) size i k l lk =
      let long : length (each n h) ≡ n * w = length_each n (λ j m. size j (omega arith)) in
      last_or_below i n l
      (λ e. rw (e, ← long) (get_or-append-add (each n h) (h n) k 0))
      (λ m. get_or-append (each n h) (h n) 0 (i * w + k) (rw long (row_below n w i k m lk))
      ∙ get_d_each n (λ j o. size j (omega arith)) i k m lk)

-- ---- all lists of a length

-- A sum over the lists of images is a sum over the lists.
pub sum_lists_map : {A B : Type 0} (k : A → B) (m : List A) (j : ℕ) (h : List B → ℕ)
    → sum h (lists (map k m) j) ≡ sum (λ l. h (map k l)) (lists m j)
unfolding lists sum
sum_lists_map k m zero h = refl
sum_lists_map k m (suc j) h =
    sum_flat_map h _ (map k m) ∙ sum_map _ k m
    ∙ sum_cong _ _ m
    (λ x i. sum_map h (λ l. k x ∷ l) (lists (map k m) j) ∙ sum_lists_map k m j (λ l. h (k x ∷ l)) ∙ sym (sum_map _ (λ l. x ∷ l) (lists m j)))
    ∙ sym (sum_flat_map _ _ m)
