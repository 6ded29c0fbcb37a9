-- Live by rounds of f exactly when live by runs (document 01, "Equations").
use Prim.Native.Nat.{ℕ, zero, suc, ◌*◌, ◌<◌}
use native.Mathlib.Nat.{le_refl, le_trans, mul-pos}
use native.Mathlib.Omega.{arith}
use mathlib.Core.Path.{◌≡◌, refl, sym, ap, ◌∙◌, subst}
use mathlib.Core.Bool.{Bool, true, false, cond}
use mathlib.Core.List.{List, [], ◌∷◌, ◌++◌, map, append_assoc}
use mathlib.Core.Logic.{inl, ◌↔◌}
use mathlib.Core.Option.{none, some}
use lib.Dec.{eqb}
use borrow.Author.Tests.{eq-eqb, eqb-true}
use Rattle.walks.specs.Sums.{bit, In}
use Rattle.ppda.specs.Rules.{Push, nothing, one, two, pushed, Rule, fits, Below, IsModel}
use Rattle.walks.specs.Lists.{lists}
use Rattle.ppda.specs.Runs.{Config, at, after}
use Rattle.ppda.specs.Equations.{Vector, through, f}
use Rattle.ppda.specs.Live.{Live, mark, is_live, alive}
use Rattle.walks.proofs.Sums.{left_of_product, right_of_product, sum_to_positive, term_le_sum_to}
use Rattle.walks.proofs.Lists.{in_flat_map, in_map, of_in_flat_map, of_in_map}
use Rattle.ppda.proofs.Stacks.{below_append}
use Rattle.ppda.proofs.Marks.{Inside, alive_closed, bit_true, f_positive, is_live_lem, mark_suc, no_mark}

-- ---- runs

-- The rules of the list are all of the model.
abbrev pub Drawn : List Rule → List Rule → Type 0
Drawn m [] = Unit {0}
Drawn m (r ∷ l) = In r m × Drawn m l

pub drawn_append : (m k l : List Rule) → Drawn m k → Drawn m l → Drawn m (k ++ l)
drawn_append m [] l a b = b
drawn_append m (r ∷ k) l a b = (a.0, drawn_append m k l a.1 b)

-- The lists of the model's rules are those that `lists` gives for some length.
pub listed_of_drawn : (m l : List Rule) → Drawn m l → (j : ℕ) × In l (lists m j)
unfolding lists
listed_of_drawn m [] d = (0, inl refl)
listed_of_drawn m (r ∷ l) d =
    let t = listed_of_drawn m l d.1 in
    (suc t.0, in_flat_map (λ r. map (λ l. r ∷ l) (lists m t.0)) r (r ∷ l) m d.0 (in_map (λ l. r ∷ l) l (lists m t.0) t.1))

pub drawn_of_listed : (m : List Rule) (j : ℕ) (l : List Rule) → In l (lists m j) → Drawn m l
unfolding lists
drawn_of_listed m zero l (mathlib.Core.Logic.inr i) = elim i [ ]
drawn_of_listed m zero l (inl e) = rw e tt
drawn_of_listed m (suc j) l i =
    let t = of_in_flat_map (λ r. map (λ l. r ∷ l) (lists m j)) l m i in
    let u = of_in_map (λ l. t.0 ∷ l) l (lists m j) t.2 in
    rw u.2 (t.1, drawn_of_listed m j u.0 u.1)

-- The first rule of a run is for the state and the top at hand.
pub after_cons : (p z : ℕ) (σ : List ℕ) (r : Rule) (l : List Rule) → fits r p z ≡ true
    → after p (z ∷ σ) (r ∷ l) ≡ after r.target (pushed r.push ++ σ) l
unfolding after
after_cons p z σ r l e = rw e

pub of_after_cons : (p z : ℕ) (σ : List ℕ) (r : Rule) (l : List Rule) (c : Config) → after p (z ∷ σ) (r ∷ l) ≡ some c
    → (fits r p z ≡ true) × (after r.target (pushed r.push ++ σ) l ≡ some c)
unfolding after
of_after_cons p z σ r l c = go (fits r p z)
  where
    go : (b : Bool) → cond b (after r.target (pushed r.push ++ σ) l) none ≡ some c
        → (b ≡ true) × (after r.target (pushed r.push ++ σ) l ≡ some c)
    go true e = (refl, e)
    go false e = let x : ◌≡◌ {A = ℕ} 0 1 = cc in absurd (omega arith)

-- A run that empties the stack α goes on, from the state in which it does, with what lies below α.
pub after_append : (p : ℕ) (α : List ℕ) (k : List Rule) (t : ℕ) → after p α k ≡ some (at t [])
    → (β : List ℕ) (l : List Rule) → after p (α ++ β) (k ++ l) ≡ after t β l
unfolding after
after_append p [] [] t e β l = ap (λ n. after n β l) (cc)
after_append p (z ∷ α) [] t e β l = let x : ◌≡◌ {A = ℕ} 0 1 = cc in absurd (omega arith)
after_append p [] (r ∷ k) t e β l = let x : ◌≡◌ {A = ℕ} 0 1 = cc in absurd (omega arith)
after_append p (z ∷ α) (r ∷ k) t e β l =
    let h = of_after_cons p z α r k (at t []) e in
    after_cons p z (α ++ β) r (k ++ l) h.0
    ∙ ap (λ σ. after r.target σ (k ++ l)) (sym (append_assoc (pushed r.push) α β))
    ∙ after_append r.target (pushed r.push ++ α) k t h.1 β l

-- Some run of the model leads from state p and the stack σ to state q and the empty stack.
abbrev pub Emptied : List Rule → ℕ → List ℕ → ℕ → Type 0
Emptied m p σ q = (l : List Rule) × Drawn m l × (after p σ l ≡ some (at q []))

live_emptied : (m : List Rule) (p z q : ℕ) → Emptied m p (z ∷ []) q ↔ Live m p z q
live_emptied m p z q = (there, λ h. (h.run, drawn_of_listed m h.steps h.run h.listed, h.empties))
  where
    there : Emptied m p (z ∷ []) q → Live m p z q
    there (l, d, e) = let t = listed_of_drawn m l d in record { steps = t.0; run = l; listed = t.1; empties = e }

emptied_cons : (m : List Rule) (p z q : ℕ) (σ : List ℕ) (r : Rule) → In r m → fits r p z ≡ true
    → Emptied m r.target (pushed r.push ++ σ) q → Emptied m p (z ∷ σ) q
emptied_cons m p z q σ r i e (l, d, h) = (r ∷ l, (i, d), after_cons p z σ r l e ∙ h)

emptied_append : (m : List Rule) (p t q : ℕ) (α β : List ℕ) → Emptied m p α t → Emptied m t β q → Emptied m p (α ++ β) q
emptied_append m p t q α β (k, d, h) (l, e, i) = (k ++ l, drawn_append m k l d e, after_append p α k t h β l ∙ i)

emptied_through : (m : List Rule) (s d : ℕ) (v : Vector) → ((p z q : ℕ) → 0 < v p z q → Emptied m p (z ∷ []) q)
    → (t : ℕ) (k : Push) (q : ℕ) → 0 < through s d v t k q → Emptied m t (pushed k ++ []) q
unfolding after
emptied_through m s d v run t nothing q c =
    ([], tt, ap (λ n. some (at n [])) (eqb-true t q (bit_true (eqb t q) (right_of_product (d * d) (bit (eqb t q)) c))))
emptied_through m s d v run t (one y) q c = run t y q (right_of_product d (v t y q) c)
emptied_through m s d v run t (two y x) q c =
    let u = sum_to_positive (λ u. v t y u * v u x q) s c in
    let i = u.0 in
    emptied_append m t i q (y ∷ []) (x ∷ [])
    (run t y i (left_of_product (v t y i) (v i x q) u.2)) (run i x q (right_of_product (v t y i) (v i x q) u.2))

-- What is marked is live.
mark_emptied : (m : List Rule) (s k p z q : ℕ) → 0 < mark m s k p z q → Emptied m p (z ∷ []) q
mark_emptied m s zero p z q c = no_mark m s p z q c
mark_emptied m s (suc k) p z q c =
    let t = (f_positive m s 1 (mark m s k) p z q).0 ((mark_suc m s k p z q).0 c) in
    let r = t.0 in
    emptied_cons m p z q [] r t.1 t.2 (emptied_through m s 1 (mark m s k) (mark_emptied m s k) r.target r.push q t.4)

-- ---- what is live is marked

-- From state p with the stack σ to the empty stack in q, symbol by symbol, through entries at which v is above 0.
abbrev Chain : ℕ → Vector → ℕ → List ℕ → ℕ → Type 0
Chain s v p [] q = p ≡ q
Chain s v p (z ∷ σ) q = (t : ℕ) × (t < s) × (0 < v p z t) × Chain s v t σ q

chain_split : (s : ℕ) (v : Vector) (p : ℕ) (α β : List ℕ) (q : ℕ) → p < s → Chain s v p (α ++ β) q
    → (t : ℕ) × (t < s) × Chain s v p α t × Chain s v t β q
chain_split s v p [] β q b c = (p, b, refl, c)
chain_split s v p (z ∷ α) β q b (t, a, pos, c) =
    let h = chain_split s v t α β q a c in
    (h.0, h.1, (t, a, pos, h.2), h.3)

chain_through : (s : ℕ) (v : Vector) (t : ℕ) (k : Push) (q : ℕ) → Chain s v t (pushed k) q → 0 < through s 1 v t k q
chain_through s v t nothing q c = rw (eq-eqb t q c) (le_refl 1)
chain_through s v t (one y) q (u, a, pos, e) = omega (arith, subst (λ n. 0 < v t y n) e pos)
chain_through s v t (two y x) q (u, a, pos, (w, b, pos', e)) =
    le_trans (mul-pos pos (subst (λ n. 0 < v u x n) e pos')) (term_le_sum_to (λ n. v t y n * v n x q) s u a)

module _ (m : List Rule) (s g : ℕ) (model : IsModel s g m) (v : Vector)
    (closed : (p z q : ℕ) → Inside s g p z q → 0 < f m s 1 v p z q → 0 < v p z q) where
  -- A run to the empty stack goes through entries of any vector that is closed under a round.
  chain_of_run : (p : ℕ) (σ : List ℕ) (l : List Rule) (q : ℕ) → p < s → Below g σ → Drawn m l
      → after p σ l ≡ some (at q []) → Chain s v p σ q
  unfolding after
  chain_of_run p [] [] q a b d e = cc
  chain_of_run p (z ∷ σ) [] q a b d e = let x : ◌≡◌ {A = ℕ} 0 1 = cc in absurd (omega arith)
  chain_of_run p [] (r ∷ l) q a b d e = let x : ◌≡◌ {A = ℕ} 0 1 = cc in absurd (omega arith)
  chain_of_run p (z ∷ σ) (r ∷ l) q a b d e =
      let h = of_after_cons p z σ r l (at q []) e in
      let ok = model.rule r d.0 in
      let below = below_append g (pushed r.push) σ ok.push b.1 in
      let rest = chain_of_run r.target (pushed r.push ++ σ) l q ok.target below d.1 h.1 in
      let c = chain_split s v r.target (pushed r.push) σ q ok.target rest in
      let t = c.0 in
      let pos = (f_positive m s 1 v p z t).1 (r, d.0, h.0, ok.weight, chain_through s v r.target r.push t c.2) in
      (t, c.1, closed p z t (a, b.0, c.1) pos, c.3)

-- Live by rounds of f exactly when live by runs.
pub live_by_rounds : (m : List Rule) (s g : ℕ) → IsModel s g m → (p z q : ℕ) → p < s → z < g → q < s
    → (is_live (alive m s g p z q) ≡ true) ↔ Live m p z q
unfolding alive
live_by_rounds m s g model p z q a b c = (there, back)
  where
    there : is_live (alive m s g p z q) ≡ true → Live m p z q
    there e = (live_emptied m p z q).0 (mark_emptied m s _ p z q ((is_live_lem _).0 e))

    back : Live m p z q → is_live (alive m s g p z q) ≡ true
    back h =
        let r = (live_emptied m p z q).1 h in
        let t = chain_of_run m s g model (alive m s g) (alive_closed m s g model) p (z ∷ []) r.0 q a (b, tt) r.1 r.2 in
        (is_live_lem _).1 (subst (λ n. 0 < alive m s g p z n) t.3 t.2)
