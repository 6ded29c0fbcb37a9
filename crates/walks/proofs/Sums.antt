-- The laws of sums, of least and greatest values and of tests over numbers.
use Prim.Native.Nat.{ℕ, zero, suc, ◌+◌, ◌*◌, ◌≤◌, ◌<◌, min, max}
use native.Mathlib.Nat.{le-min, max-le, le_refl, add-le-add, zero-add, add-zero, add-suc, mul-zero, zero-mul, eq-zero-or-pos, not-suc-le-zero, eq-or-lt_of_le, le_of_suc-le-suc}
use native.Mathlib.Numerals.{add-one}
use native.Mathlib.Omega.{arith}
use mathlib.Core.Bool.{Bool, true, and-eq-true_iff}
use mathlib.Core.Path.{◌≡◌, refl, sym, ap, ap₂, ◌∙◌}
use mathlib.Core.List.{List, [], ◌∷◌, ◌++◌, map, flat_map}
use mathlib.Core.Logic.{◌⊎◌, inl, inr, ◌↔◌}
use lib.Dec.{eqb}
use borrow.Author.Tests.{eq-eqb, ne_eqb}
use borrow.Author.Count.{below_more}
use Rattle.walks.specs.Sums.{bit, sign, sum, sum_to, least_to, greatest_to, all_to, In}

-- Below suc n is n, or below n.
pub last_or_below : {P : Type 0} (i n : ℕ) → i < suc n → (i ≡ n → P) → (i < n → P) → P
last_or_below {P} i n l last below = go (eq-or-lt_of_le (le_of_suc-le-suc l))
  where
    go : (i ≡ n) ⊎ (i < n) → P
    go (inl e) = last e
    go (inr b) = below b

-- ---- over a list

module _ {A : Type 0} where
  pub sum_cong : (h k : A → ℕ) (l : List A) → ((x : A) → In x l → h x ≡ k x) → sum h l ≡ sum k l
  unfolding sum
  sum_cong h k [] e = refl
  sum_cong h k (x ∷ l) e = ap₂ ◌+◌ (e x (inl refl)) (sum_cong h k l (λ y i. e y (inr i)))

  pub sum_mono : (h k : A → ℕ) (l : List A) → ((x : A) → In x l → h x ≤ k x) → sum h l ≤ sum k l
  unfolding sum
  sum_mono h k [] e = le_refl 0
  sum_mono h k (x ∷ l) e = add-le-add (e x (inl refl)) (sum_mono h k l (λ y i. e y (inr i)))

  pub sum_zero : (l : List A) → sum (λ x. 0) l ≡ 0
  unfolding sum
  sum_zero [] = refl
  sum_zero (x ∷ l) = rw (zero-add, sum_zero l)

  pub sum_add : (h k : A → ℕ) (l : List A) → sum (λ x. h x + k x) l ≡ sum h l + sum k l
  unfolding sum
  sum_add h k [] = refl
  sum_add h k (x ∷ l) = rw (sum_add h k l) (omega arith)

  pub sum_mul : (c : ℕ) (h : A → ℕ) (l : List A) → sum (λ x. c * h x) l ≡ c * sum h l
  unfolding sum
  sum_mul c h [] = sym (mul-zero c)
  sum_mul c h (x ∷ l) = rw (sum_mul c h l) (omega arith)

  pub sum_append : (h : A → ℕ) (k l : List A) → sum h (k ++ l) ≡ sum h k + sum h l
  unfolding sum
  sum_append h [] l = sym (zero-add (sum h l))
  sum_append h (x ∷ k) l = rw (sum_append h k l) (omega arith)

  -- A sum above 0 has a term above 0.
  pub sum_positive : (h : A → ℕ) (l : List A) → 0 < sum h l → (x : A) × In x l × (0 < h x)
  unfolding sum
  sum_positive h [] pos = absurd (not-suc-le-zero pos)
  sum_positive h (x ∷ l) pos = go (eq-zero-or-pos (h x)) (λ e. sum_positive h l e)
    where
      go : (h x ≡ 0) ⊎ (0 < h x) → (0 < sum h l → (y : A) × In y l × (0 < h y)) → (y : A) × In y (x ∷ l) × (0 < h y)
      go (inr here) rest = (x, inl refl, here)
      go (inl none) rest = let y = rest (omega arith) in (y.0, inr y.1, y.2)

  pub term_le_sum : (h : A → ℕ) (l : List A) (x : A) → In x l → h x ≤ sum h l
  unfolding sum
  term_le_sum h [] x i = elim i [ ]
  term_le_sum h (y ∷ l) x (inl e) = rw e (omega arith)
  term_le_sum h (y ∷ l) x (inr i) = let t : h x ≤ sum h l = term_le_sum h l x i in omega arith

pub sum_map : {A B : Type 0} (h : B → ℕ) (k : A → B) (l : List A) → sum h (map k l) ≡ sum (λ x. h (k x)) l
unfolding sum
sum_map h k [] = refl
sum_map h k (x ∷ l) = ap (λ n. h (k x) + n) (sum_map h k l)

pub sum_flat_map : {A B : Type 0} (h : B → ℕ) (k : A → List B) (l : List A) → sum h (flat_map k l) ≡ sum (λ x. sum h (k x)) l
unfolding sum flat_map
sum_flat_map h k [] = refl
sum_flat_map h k (x ∷ l) = sum_append h (k x) (flat_map k l) ∙ ap (λ n. sum h (k x) + n) (sum_flat_map h k l)

-- ---- over the numbers below n

-- One more term, as a loop adds it.
pub sum_to_none : (h : ℕ → ℕ) → sum_to h 0 ≡ 0
unfolding sum_to
sum_to_none h = refl

-- Terms of 0 at the end add nothing.
pub sum_to_past : (h : ℕ → ℕ) (a n : ℕ) → a ≤ n → ((i : ℕ) → a ≤ i → i < n → h i ≡ 0) → sum_to h a ≡ sum_to h n
unfolding sum_to
sum_to_past h a zero l none = let e : a ≡ 0 = omega arith in rw e
sum_to_past h a (suc n) l none = go (eq-or-lt_of_le l) (λ m. sum_to_past h a n m (λ i c d. none i c (omega arith)))
  where
    go : (a ≡ suc n) ⊎ (a < suc n) → (a ≤ n → sum_to h a ≡ sum_to h n) → sum_to h a ≡ sum_to h n + h n
    go (inl e) rest = rw e
    go (inr m) rest = omega (arith, rest (le_of_suc-le-suc m), none n (le_of_suc-le-suc m) (le_refl (suc n)))

pub sum_to_step : (h : ℕ → ℕ) (n : ℕ) → sum_to h (n + 1) ≡ sum_to h n + h n
unfolding sum_to
sum_to_step h n = rw add-one

pub sum_to_cong : (h k : ℕ → ℕ) (n : ℕ) → ((i : ℕ) → i < n → h i ≡ k i) → sum_to h n ≡ sum_to k n
unfolding sum_to
sum_to_cong h k zero e = refl
sum_to_cong h k (suc n) e = ap₂ ◌+◌ (sum_to_cong h k n (λ i b. e i (omega arith))) (e n (omega arith))

pub sum_to_mono : (h k : ℕ → ℕ) (n : ℕ) → ((i : ℕ) → i < n → h i ≤ k i) → sum_to h n ≤ sum_to k n
unfolding sum_to
sum_to_mono h k zero e = le_refl 0
sum_to_mono h k (suc n) e = add-le-add (sum_to_mono h k n (λ i b. e i (omega arith))) (e n (omega arith))

pub sum_to_zero : (n : ℕ) → sum_to (λ i. 0) n ≡ 0
unfolding sum_to
sum_to_zero zero = refl
sum_to_zero (suc n) = rw (sum_to_zero n)

pub sum_to_add : (h k : ℕ → ℕ) (n : ℕ) → sum_to (λ i. h i + k i) n ≡ sum_to h n + sum_to k n
unfolding sum_to
sum_to_add h k zero = refl
sum_to_add h k (suc n) = rw (sum_to_add h k n) (omega arith)

pub sum_to_mul : (c : ℕ) (h : ℕ → ℕ) (n : ℕ) → sum_to (λ i. c * h i) n ≡ c * sum_to h n
unfolding sum_to
sum_to_mul c h zero = sym (mul-zero c)
sum_to_mul c h (suc n) = rw (sum_to_mul c h n) (omega arith)

-- Sums on two scales compare as their terms do.
pub sum_to_scaled : (a b : ℕ) (h k : ℕ → ℕ) (n : ℕ) → ((i : ℕ) → i < n → h i * a ≤ k i * b) → sum_to h n * a ≤ sum_to k n * b
unfolding sum_to
sum_to_scaled a b h k zero e = simp zero-mul (le_refl 0)
sum_to_scaled a b h k (suc n) e =
    let t : sum_to h n * a ≤ sum_to k n * b = sum_to_scaled a b h k n (λ i c. e i (omega arith)) in
    omega (arith, e n (omega arith))

-- A sum of terms that are each at most a combination of two others.
pub sum_to_combined : (a b : ℕ) (h k l : ℕ → ℕ) (n : ℕ) → ((i : ℕ) → i < n → l i ≤ a * h i + b * k i)
    → sum_to l n ≤ a * sum_to h n + b * sum_to k n
sum_to_combined a b h k l n e =
    rw (← sum_to_mul a h n, ← sum_to_mul b k n, ← sum_to_add (λ i. a * h i) (λ i. b * k i) n) (sum_to_mono l _ n e)

-- The first term apart.
pub sum_to_front : (h : ℕ → ℕ) (n : ℕ) → sum_to h (suc n) ≡ h 0 + sum_to (λ i. h (suc i)) n
unfolding sum_to
sum_to_front h zero = omega arith
sum_to_front h (suc n) = rw (sum_to_front h n) (omega arith)

pub sum_to_positive : (h : ℕ → ℕ) (n : ℕ) → 0 < sum_to h n → (i : ℕ) × (i < n) × (0 < h i)
unfolding sum_to
sum_to_positive h zero pos = absurd (not-suc-le-zero pos)
sum_to_positive h (suc n) pos = go (eq-zero-or-pos (h n)) (λ e. sum_to_positive h n e)
  where
    go : (h n ≡ 0) ⊎ (0 < h n) → (0 < sum_to h n → (i : ℕ) × (i < n) × (0 < h i)) → (i : ℕ) × (i < suc n) × (0 < h i)
    go (inr here) rest = (n, le_refl (suc n), here)
    go (inl none) rest = let y = rest (omega arith) in (y.0, omega (arith, y.1), y.2)

pub term_le_sum_to : (h : ℕ → ℕ) (n i : ℕ) → i < n → h i ≤ sum_to h n
unfolding sum_to
term_le_sum_to h zero i b = absurd (not-suc-le-zero b)
term_le_sum_to h (suc n) i b = go (eq-or-lt_of_le (le_of_suc-le-suc b)) (λ c. term_le_sum_to h n i c)
  where
    go : (i ≡ n) ⊎ (i < n) → (i < n → h i ≤ sum_to h n) → h i ≤ sum_to h n + h n
    go (inl e) rest = rw e (omega arith)
    go (inr c) rest = let t : h i ≤ sum_to h n = rest c in omega arith

-- More terms make no smaller sum.
pub sum_to_grows : (h : ℕ → ℕ) (a n : ℕ) → a ≤ n → sum_to h a ≤ sum_to h n
unfolding sum_to
sum_to_grows h a zero l = let e : a ≡ 0 = omega arith in rw e (le_refl _)
sum_to_grows h a (suc n) l = go (eq-or-lt_of_le l) (λ m. sum_to_grows h a n m)
  where
    go : (a ≡ suc n) ⊎ (a < suc n) → (a ≤ n → sum_to h a ≤ sum_to h n) → sum_to h a ≤ sum_to h n + h n
    go (inl e) rest = rw e (le_refl (sum_to h n + h n))
    go (inr m) rest = omega (arith, rest (le_of_suc-le-suc m))

-- A sum of n terms of at most b each.
pub sum_to_le : (h : ℕ → ℕ) (b n : ℕ) → ((i : ℕ) → i < n → h i ≤ b) → sum_to h n ≤ n * b
unfolding sum_to
sum_to_le h b zero e = omega arith
sum_to_le h b (suc n) e = let t : sum_to h n ≤ n * b = sum_to_le h b n (λ i c. e i (omega arith)) in omega (arith, e n (le_refl (suc n)))

-- Where no term of h is above that of k, and the sum of k is at most that of h, no term of k is above that of h.
pub sum_to_tight : (h k : ℕ → ℕ) (n : ℕ) → ((i : ℕ) → i < n → h i ≤ k i) → sum_to k n ≤ sum_to h n → (i : ℕ) → i < n → k i ≤ h i
unfolding sum_to
sum_to_tight h k zero e c i b = absurd (not-suc-le-zero b)
sum_to_tight h k (suc n) e c i b = go (eq-or-lt_of_le (le_of_suc-le-suc b)) (λ d. sum_to_tight h k n below d i)
  where
    below : (j : ℕ) → j < n → h j ≤ k j
    below j d = e j (omega arith)

    go : (i ≡ n) ⊎ (i < n) → (sum_to k n ≤ sum_to h n → i < n → k i ≤ h i) → k i ≤ h i
    go (inl q) rest = rw q (omega (arith, sum_to_mono h k n below))
    go (inr d) rest = rest (omega (arith, e n (le_refl (suc n)))) d

-- The first a terms, and the others.
pub sum_to_split : (h : ℕ → ℕ) (a b : ℕ) → sum_to h (a + b) ≡ sum_to h a + sum_to (λ i. h (a + i)) b
unfolding sum_to
sum_to_split h a zero = rw (add-zero a) (sym (add-zero (sum_to h a)))
sum_to_split h a (suc b) = rw (add-suc a b, sum_to_split h a b) (omega arith)

-- A sum in which only the term at p can differ from 0.
pub sum_to_pick : (h : ℕ → ℕ) (p n : ℕ) → p < n → sum_to (λ i. bit (eqb p i) * h i) n ≡ h p
unfolding sum_to
sum_to_pick h p zero b = absurd (not-suc-le-zero b)
sum_to_pick h p (suc n) b = go (eq-or-lt_of_le (le_of_suc-le-suc b)) (λ c. sum_to_pick h p n c)
  where
    below : (k : ℕ) → k ≤ p → sum_to (λ i. bit (eqb p i) * h i) k ≡ 0
    below k c = sum_to_cong (λ i. bit (eqb p i) * h i) (λ i. 0) k (λ i d. rw (ne_eqb p i (λ e. omega arith)) (zero-mul (h i))) ∙ sum_to_zero k

    go : (p ≡ n) ⊎ (p < n) → (p < n → sum_to (λ i. bit (eqb p i) * h i) n ≡ h p)
        → sum_to (λ i. bit (eqb p i) * h i) n + bit (eqb p n) * h n ≡ h p
    go (inl e) rest = rw (below n (omega arith), eq-eqb p n e, e) (omega arith)
    go (inr c) rest = rw (rest c, ne_eqb p n (λ e. omega arith)) (omega arith)

-- A sum over a list of sums is a sum of sums over the list.
pub sum_swap : {A : Type 0} (h : A → ℕ → ℕ) (l : List A) (n : ℕ) → sum_to (λ i. sum (λ x. h x i) l) n ≡ sum (λ x. sum_to (h x) n) l
unfolding sum sum_to
sum_swap h [] n = sum_to_zero n
sum_swap h (x ∷ l) n = sum_to_add (h x) (λ i. sum (λ y. h y i) l) n ∙ ap (λ k. sum_to (h x) n + k) (sum_swap h l n)

-- ---- signs and least values

pub sign_positive : (n : ℕ) → 0 < n → sign n ≡ 1
unfolding sign
sign_positive zero pos = absurd (not-suc-le-zero pos)
sign_positive (suc n) pos = refl

pub positive_of_sign : (n : ℕ) → 0 < sign n → 0 < n
unfolding sign
positive_of_sign zero pos = pos
positive_of_sign (suc n) pos = omega arith

pub sign_le_one : (n : ℕ) → sign n ≤ 1
unfolding sign
sign_le_one zero = omega arith
sign_le_one (suc n) = le_refl 1

pub least_to_le_top : (top : ℕ) (h : ℕ → ℕ) (n : ℕ) → least_to top h n ≤ top
unfolding least_to
least_to_le_top top h zero = le_refl top
least_to_le_top top h (suc n) = let t : least_to top h n ≤ top = least_to_le_top top h n in omega arith

pub least_to_le_term : (top : ℕ) (h : ℕ → ℕ) (n i : ℕ) → i < n → least_to top h n ≤ h i
unfolding least_to
least_to_le_term top h zero i b = absurd (not-suc-le-zero b)
least_to_le_term top h (suc n) i b = go (eq-or-lt_of_le (le_of_suc-le-suc b)) (λ c. least_to_le_term top h n i c)
  where
    go : (i ≡ n) ⊎ (i < n) → (i < n → least_to top h n ≤ h i) → min (least_to top h n) (h n) ≤ h i
    go (inl e) rest = rw e (omega arith)
    go (inr c) rest = let t : least_to top h n ≤ h i = rest c in omega arith

pub least_to_cong : (top : ℕ) (h k : ℕ → ℕ) (n : ℕ) → ((i : ℕ) → i < n → h i ≡ k i) → least_to top h n ≡ least_to top k n
unfolding least_to
least_to_cong top h k zero e = refl
least_to_cong top h k (suc n) e = ap₂ min (least_to_cong top h k n (λ i l. e i (omega arith))) (e n (omega arith))

pub least_to_greatest : (top : ℕ) (h : ℕ → ℕ) (n a : ℕ) → a ≤ top → ((i : ℕ) → i < n → a ≤ h i) → a ≤ least_to top h n
unfolding least_to
least_to_greatest top h zero a t e = t
least_to_greatest top h (suc n) a t e = le-min (least_to_greatest top h n a t (λ i b. e i (omega arith))) (e n (le_refl (suc n)))

-- ---- products above 0

-- Both factors are above 0.
pub left_of_product : (a b : ℕ) → 0 < a * b → 0 < a
left_of_product zero b h = omega arith
left_of_product (suc a) b h = omega arith

pub right_of_product : (a b : ℕ) → 0 < a * b → 0 < b
right_of_product a zero h = omega arith
right_of_product a (suc b) h = omega arith

-- A number of at most 1 is at most any number that is above 0 where it is.
pub bit_le : (a b : ℕ) → a ≤ 1 → (0 < a → 0 < b) → a ≤ b
bit_le zero b h k = omega arith
bit_le (suc a) b h k = let t : 0 < b = k (omega arith) in omega arith

-- ---- tests

pub all_exactly : (h : ℕ → Bool) (n : ℕ) → (all_to h n ≡ true) ↔ ((e : ℕ) → e < n → h e ≡ true)
unfolding all_to
all_exactly h zero = (λ q e lt. absurd (omega arith), λ all. refl)
all_exactly h (suc n) = (
  λ q e lt. let (all, last) = (and-eq-true_iff (all_to h n) (h n)).0 q in
      below_more (λ e. h e ≡ true) n ((all_exactly h n).0 all) last e (omega arith),
  λ all. (and-eq-true_iff (all_to h n) (h n)).1 ((all_exactly h n).1 (λ e lt. all e (omega arith)), all n (omega arith)),
)

-- ---- greatest values

pub greatest_le : (h : ℕ → ℕ) (n i : ℕ) → i < n → h i ≤ greatest_to h n
unfolding greatest_to
greatest_le h zero i b = absurd (not-suc-le-zero b)
greatest_le h (suc n) i b = go (eq-or-lt_of_le (le_of_suc-le-suc b)) (λ c. greatest_le h n i c)
  where
    go : (i ≡ n) ⊎ (i < n) → (i < n → h i ≤ greatest_to h n) → h i ≤ max (greatest_to h n) (h n)
    go (inl e) rest = rw e (omega arith)
    go (inr c) rest = let t : h i ≤ greatest_to h n = rest c in omega arith

pub greatest_most : (h : ℕ → ℕ) (n a : ℕ) → ((i : ℕ) → i < n → h i ≤ a) → greatest_to h n ≤ a
unfolding greatest_to
greatest_most h zero a e = omega arith
greatest_most h (suc n) a e = max-le (greatest_most h n a (λ i b. e i (omega arith))) (e n (le_refl (suc n)))

pub greatest_cong : (h k : ℕ → ℕ) (n : ℕ) → ((i : ℕ) → i < n → h i ≡ k i) → greatest_to h n ≡ greatest_to k n
unfolding greatest_to
greatest_cong h k zero e = refl
greatest_cong h k (suc n) e = ap₂ max (greatest_cong h k n (λ i b. e i (omega arith))) (e n (omega arith))

-- Where a loop begins, and one more turn of it.
pub greatest_none : (h : ℕ → ℕ) → greatest_to h 0 ≡ 0
unfolding greatest_to
greatest_none h = refl

pub greatest_step : (h : ℕ → ℕ) (i : ℕ) → greatest_to h (i + 1) ≡ max (greatest_to h i) (h i)
unfolding greatest_to
greatest_step h i = rw add-one
