-- Marks by rounds of f: they agree in sign with the exact rounds, they only grow, and as many rounds as there are entries are enough
-- (document 01, "Equations").
use Prim.Native.Nat.{ℕ, zero, suc, ◌*◌, ◌≤◌, ◌<◌}
use native.Mathlib.Nat.{le_refl, le_trans, mul-pos, not-suc-le-zero, eq-or-lt_of_le, le_antisymm}
use native.Mathlib.Omega.{arith}
use mathlib.Core.Path.{◌≡◌, refl}
use mathlib.Core.Bool.{Bool, true, false}
use mathlib.Core.List.{List}
use mathlib.Core.Logic.{◌⊎◌, inl, inr, ◌↔◌}
use lib.Dec.{eqb}
use borrow.Author.Tests.{lt-ltb, ltb-true, ltb-false}
use Rattle.walks.specs.Sums.{bit, sign, sum, sum_to, In}
use Rattle.ppda.specs.Rules.{Push, nothing, one, two, pushed, Rule, fits, over_row, Below, IsModel}
use Rattle.ppda.specs.Equations.{Vector, through, f}
use Rattle.ppda.specs.Live.{scale, rounds, mark, is_live, alive}
use Rattle.walks.proofs.Sums.{bit_le, left_of_product, positive_of_sign, right_of_product, sign_le_one, sign_positive, sum_positive, sum_to_le, sum_to_mono, sum_to_positive, sum_to_tight, term_le_sum, term_le_sum_to}

pub bit_true : (b : Bool) → 0 < bit b → b ≡ true
bit_true true h = refl
bit_true false h = absurd (not-suc-le-zero h)

-- ---- where f is above 0

-- f is above 0 where a rule of the row, of a weight above 0, leads to pushed symbols with a chance above 0.
pub f_positive : (m : List Rule) (s d : ℕ) (v : Vector) (p z q : ℕ)
    → (0 < f m s d v p z q)
    ↔ ((r : Rule) × In r m × (fits r p z ≡ true) × (0 < r.weight) × (0 < through s d v r.target r.push q))
unfolding f over_row
f_positive m s d v p z q = (there, back)
  where
    h : Rule → ℕ
    h r = through s d v r.target r.push q

    there : 0 < sum (λ r. bit (fits r p z) * (r.weight * h r)) m
        → (r : Rule) × In r m × (fits r p z ≡ true) × (0 < r.weight) × (0 < h r)
    there pos =
        let t = sum_positive (λ r. bit (fits r p z) * (r.weight * h r)) m pos in
        let r = t.0 in
        let b = right_of_product (bit (fits r p z)) (r.weight * h r) t.2 in (
          r,
          t.1,
          bit_true (fits r p z) (left_of_product (bit (fits r p z)) (r.weight * h r) t.2),
          left_of_product r.weight (h r) b,
          right_of_product r.weight (h r) b,
        )

    back : ((r : Rule) × In r m × (fits r p z ≡ true) × (0 < r.weight) × (0 < h r))
        → 0 < sum (λ r. bit (fits r p z) * (r.weight * h r)) m
    back (r, i, e, w, c) = le_trans (rw e (omega (arith, mul-pos w c))) (term_le_sum (λ r. bit (fits r p z) * (r.weight * h r)) m r i)

-- For the entries at which R holds.
module _ (R : ℕ → ℕ → ℕ → Type 0) (s : ℕ) where
  -- R holds at each entry that `through` reads from state t.
  abbrev Within : ℕ → Push → ℕ → Type 0
  Within t nothing q = Unit {0}
  Within t (one y) q = R t y q
  Within t (two y x) q = (u : ℕ) → u < s → R t y u × R u x q

  through_stays_positive : (d e : ℕ) (v w : Vector) → 0 < e → ((p z q : ℕ) → R p z q → 0 < v p z q → 0 < w p z q)
      → (t : ℕ) (k : Push) (q : ℕ) → Within t k q → 0 < through s d v t k q → 0 < through s e w t k q
  through_stays_positive d e v w pos grow t nothing q n c = mul-pos (mul-pos pos pos) (right_of_product (d * d) (bit (eqb t q)) c)
  through_stays_positive d e v w pos grow t (one y) q n c = mul-pos pos (grow t y q n (right_of_product d (v t y q) c))
  through_stays_positive d e v w pos grow t (two y x) q n c =
      let u = sum_to_positive (λ u. v t y u * v u x q) s c in
      let i = u.0 in
      let k = n i u.1 in
      let a = grow t y i k.0 (left_of_product (v t y i) (v i x q) u.2) in
      let b = grow i x q k.1 (right_of_product (v t y i) (v i x q) u.2) in
      le_trans (mul-pos a b) (term_le_sum_to (λ u. w t y u * w u x q) s i u.1)

  -- Where a vector is above 0 wherever another is, f of it is above 0 wherever f of the other is.
  f_stays_positive : (m : List Rule) → ((r : Rule) → In r m → (p z q : ℕ) → R p z q → Within r.target r.push q)
      → (d e : ℕ) (v w : Vector) → 0 < e → ((p z q : ℕ) → R p z q → 0 < v p z q → 0 < w p z q)
      → (p z q : ℕ) → R p z q → 0 < f m s d v p z q → 0 < f m s e w p z q
  f_stays_positive m within d e v w pos grow p z q n c =
      let t = (f_positive m s d v p z q).0 c in
      (f_positive m s e w p z q).1
      (t.0, t.1, t.2, t.3, through_stays_positive d e v w pos grow t.0.target t.0.push q (within t.0 t.1 p z q n) t.4)

-- Over all entries.
f_stays_positive_everywhere : (m : List Rule) (s d e : ℕ) (v w : Vector) → 0 < e → ((p z q : ℕ) → 0 < v p z q → 0 < w p z q)
    → (p z q : ℕ) → 0 < f m s d v p z q → 0 < f m s e w p z q
f_stays_positive_everywhere m s d e v w pos grow p z q =
    f_stays_positive (λ p z q. Unit {0}) s m (λ r i p z q n. all r.target r.push q) d e v w pos (λ p z q n. grow p z q) p z q tt
  where
    all : (t : ℕ) (k : Push) (q : ℕ) → Within (λ p z q. Unit {0}) s t k q
    all t nothing q = tt
    all t (one y) q = tt
    all t (two y x) q = λ u b. (tt, tt)

-- The entries of s states and g symbols.
abbrev pub Inside : ℕ → ℕ → ℕ → ℕ → ℕ → Type 0
Inside s g p z q = (p < s) × (z < g) × (q < s)

-- Over the entries of a model.
f_stays_positive_inside : (m : List Rule) (s g : ℕ) → IsModel s g m
    → (v w : Vector) → ((p z q : ℕ) → Inside s g p z q → 0 < v p z q → 0 < w p z q)
    → (p z q : ℕ) → Inside s g p z q → 0 < f m s 1 v p z q → 0 < f m s 1 w p z q
f_stays_positive_inside m s g model v w =
    f_stays_positive (Inside s g) s m (λ r i p z q n. within r.target r.push q (model.rule r i).target (model.rule r i).push n.2)
    1 1 v w (le_refl 1)
  where
    within : (t : ℕ) (k : Push) (q : ℕ) → t < s → Below g (pushed k) → q < s → Within (Inside s g) s t k q
    within t nothing q a b c = tt
    within t (one y) q a b c = (a, b.0, c)
    within t (two y x) q a b c = λ u d. ((a, b.0, d), (d, b.1.0, c))

-- ---- marks and rounds

pub mark_is_bit : (m : List Rule) (s k p z q : ℕ) → mark m s k p z q ≤ 1
unfolding mark
mark_is_bit m s zero p z q = omega arith
mark_is_bit m s (suc k) p z q = sign_le_one (f m s 1 (mark m s k) p z q)

pub mark_suc : (m : List Rule) (s k p z q : ℕ) → (0 < mark m s (suc k) p z q) ↔ (0 < f m s 1 (mark m s k) p z q)
unfolding mark
mark_suc m s k p z q = (positive_of_sign (f m s 1 (mark m s k) p z q), λ c. rw (sign_positive (f m s 1 (mark m s k) p z q) c) (le_refl 1))

pub no_mark : {B : Type 0} (m : List Rule) (s p z q : ℕ) → 0 < mark m s 0 p z q → B
unfolding mark
no_mark m s p z q c = absurd (not-suc-le-zero c)

mark_keeps : (m : List Rule) (s k p z q : ℕ) → 0 < mark m s k p z q → 0 < mark m s (suc k) p z q
mark_keeps m s zero p z q c = no_mark m s p z q c
mark_keeps m s (suc k) p z q c =
    (mark_suc m s (suc k) p z q).1
    (f_stays_positive_everywhere m s 1 1 (mark m s k) (mark m s (suc k)) (le_refl 1) (mark_keeps m s k) p z q ((mark_suc m s k p z q).0 c))

pub mark_grows : (m : List Rule) (s k p z q : ℕ) → mark m s k p z q ≤ mark m s (suc k) p z q
mark_grows m s k p z q = bit_le _ _ (mark_is_bit m s k p z q) (mark_keeps m s k p z q)

scale_positive : (k : ℕ) → 0 < scale k
unfolding scale
scale_positive zero = omega arith
scale_positive (suc k) = omega (arith, mul-pos (scale_positive k) (scale_positive k))

mark_of_round : (m : List Rule) (s k p z q : ℕ) → 0 < rounds m s k p z q → 0 < mark m s k p z q
unfolding rounds
mark_of_round m s zero p z q c = absurd (not-suc-le-zero c)
mark_of_round m s (suc k) p z q c =
    (mark_suc m s k p z q).1 (f_stays_positive_everywhere m s (scale k) 1 (rounds m s k) (mark m s k) (le_refl 1) (mark_of_round m s k) p z q c)

round_of_mark : (m : List Rule) (s k p z q : ℕ) → 0 < mark m s k p z q → 0 < rounds m s k p z q
unfolding rounds
round_of_mark m s zero p z q c = no_mark m s p z q c
round_of_mark m s (suc k) p z q c =
    f_stays_positive_everywhere m s 1 (scale k) (mark m s k) (rounds m s k) (scale_positive k) (round_of_mark m s k) p z q ((mark_suc m s k p z q).0 c)

pub marks_are_rounds : (m : List Rule) (s k p z q : ℕ) → sign (rounds m s k p z q) ≡ mark m s k p z q
marks_are_rounds m s k p z q =
    le_antisymm
    (bit_le _ _ (sign_le_one (rounds m s k p z q)) (λ c. mark_of_round m s k p z q (positive_of_sign _ c)))
    (bit_le _ _ (mark_is_bit m s k p z q) (λ c. rw (sign_positive _ (round_of_mark m s k p z q c)) (le_refl 1)))

-- ---- as many rounds as entries are enough

-- The sum of v over the entries of s states and g symbols.
count : ℕ → ℕ → Vector → ℕ
count s g v = sum_to (λ p. sum_to (λ z. sum_to (v p z) s) g) s

count_le : (s g : ℕ) (v : Vector) → ((p z q : ℕ) → v p z q ≤ 1) → count s g v ≤ s * g * s
unfolding count
count_le s g v b =
    omega (arith, sum_to_le _ (g * (s * 1)) s (λ p i. sum_to_le _ (s * 1) g (λ z j. sum_to_le (v p z) 1 s (λ q k. b p z q))))

count_mono : (s g : ℕ) (v w : Vector) → ((p z q : ℕ) → v p z q ≤ w p z q) → count s g v ≤ count s g w
unfolding count
count_mono s g v w e = sum_to_mono _ _ s (λ p i. sum_to_mono _ _ g (λ z j. sum_to_mono _ _ s (λ q k. e p z q)))

count_tight : (s g : ℕ) (v w : Vector) → ((p z q : ℕ) → v p z q ≤ w p z q) → count s g w ≤ count s g v
    → (p z q : ℕ) → Inside s g p z q → w p z q ≤ v p z q
unfolding count
count_tight s g v w e c p z q (a, b, d) =
    let at_p = sum_to_tight _ _ s (λ p i. sum_to_mono _ _ g (λ z j. sum_to_mono _ _ s (λ q k. e p z q))) c p a in
    let at-z = sum_to_tight _ _ g (λ z j. sum_to_mono _ _ s (λ q k. e p z q)) at_p z b in
    sum_to_tight (v p z) (w p z) s (λ q k. e p z q) at-z q d

-- Round k + 1 marks no entry of the model that round k has not marked.
abbrev Settled : List Rule → ℕ → ℕ → ℕ → Type 0
Settled m s g k = (p z q : ℕ) → Inside s g p z q → 0 < mark m s (suc k) p z q → 0 < mark m s k p z q

module _ (m : List Rule) (s g : ℕ) (model : IsModel s g m) where
  settled_suc : (k : ℕ) → Settled m s g k → Settled m s g (suc k)
  settled_suc k e p z q n c =
      (mark_suc m s k p z q).1 (f_stays_positive_inside m s g model (mark m s (suc k)) (mark m s k) e p z q n ((mark_suc m s (suc k) p z q).0 c))

  -- A round marks nothing new, or adds at least one to the count.
  settled_or_one_more : (k : ℕ) → k ≤ count s g (mark m s k) → Settled m s g k ⊎ (k < count s g (mark m s (suc k)))
  settled_or_one_more k b = go (eq-or-lt_of_le (count_mono s g (mark m s k) (mark m s (suc k)) (mark_grows m s k)))
    where
      go : (count s g (mark m s k) ≡ count s g (mark m s (suc k))) ⊎ (count s g (mark m s k) < count s g (mark m s (suc k)))
          → Settled m s g k ⊎ (k < count s g (mark m s (suc k)))
      go (inl e) = inl (λ p z q n c. le_trans c (count_tight s g (mark m s k) (mark m s (suc k)) (mark_grows m s k) (omega arith) p z q n))
      go (inr d) = inr (omega arith)

  settled_or_more : (k : ℕ) → Settled m s g k ⊎ (k < count s g (mark m s (suc k)))
  settled_or_more zero = settled_or_one_more 0 (omega arith)
  settled_or_more (suc k) = elim (settled_or_more k) [ inl a ↦ inl (settled_suc k a) | inr b ↦ settled_or_one_more (suc k) b ]

  settled : (k : ℕ) → s * g * s ≤ k → Settled m s g k
  settled k enough = elim (settled_or_more k) [
    | inl a ↦ a
    | inr b ↦ absurd (omega (arith, count_le s g (mark m s (suc k)) (mark_is_bit m s (suc k))))
  ]

  -- The live marks are closed under a round.
  pub alive_closed : (p z q : ℕ) → Inside s g p z q → 0 < f m s 1 (alive m s g) p z q → 0 < alive m s g p z q
  unfolding alive
  alive_closed p z q n c = settled _ (omega arith) p z q n ((mark_suc m s _ p z q).1 c)

  marks_alive : (k p z q : ℕ) → Inside s g p z q → 0 < mark m s k p z q → 0 < alive m s g p z q
  marks_alive zero p z q n c = no_mark m s p z q c
  marks_alive (suc k) p z q n c =
      alive_closed p z q n (f_stays_positive_inside m s g model (mark m s k) (alive m s g) (marks_alive k) p z q n ((mark_suc m s k p z q).0 c))

  -- No number of rounds marks more than as many rounds as there are entries.
  pub rounds_enough : (k p z q : ℕ) → p < s → z < g → q < s → mark m s k p z q ≤ alive m s g p z q
  rounds_enough k p z q a b c = bit_le _ _ (mark_is_bit m s k p z q) (marks_alive k p z q (a, b, c))

pub alive_is_bit : (m : List Rule) (s g p z q : ℕ) → alive m s g p z q ≤ 1
unfolding alive
alive_is_bit m s g p z q = mark_is_bit m s _ p z q

-- A mark says that its entry is live exactly where it is above 0, and that it is dead where it is 0.
pub is_live_lem : (a : ℕ) → (is_live a ≡ true) ↔ (0 < a)
unfolding is_live
is_live_lem a = (ltb-true 0 a, lt-ltb 0 a)

pub is_dead : (a : ℕ) → is_live a ≡ false → a ≡ 0
unfolding is_live
is_dead a e = omega (arith, ltb-false 0 a e)
