-- The laws of rules and of sums over the rules of a row.
use Prim.Native.Nat.{ℕ, ◌+◌, ◌*◌, ◌≤◌}
use native.Mathlib.Nat.{mul-le-mul_left, mul-one, mul_comm}
use native.Mathlib.Omega.{arith}
use mathlib.Core.Path.{◌≡◌, sym, ap, ◌∙◌, fun_ext}
use mathlib.Core.Bool.{Bool, true, ◌&&◌, and-eq-true_iff}
use mathlib.Core.List.{List, [], ◌∷◌}
use mathlib.Core.Logic.{◌↔◌}
use lib.Dec.{eqb, ltb}
use borrow.Author.Tests.{eqb-true, eq-eqb, ltb-true}
use Rattle.walks.specs.Sums.{bit, sum_to, In}
use Rattle.ppda.specs.Rules.{pushed, Rule, fits, over_row, Below, IsRule}
use Rattle.walks.proofs.Sums.{sum_cong, sum_mono, sum_add, sum_mul, sum_swap, sum_to_mul}
use Rattle.walks.proofs.Lists.{every, in_every}

-- A test for the rules of a model, for models that are written out.
abbrev below_test : ℕ → List ℕ → Bool
below_test g [] = true
below_test g (z ∷ σ) = ltb z g && below_test g σ

abbrev pub rule_test : ℕ → ℕ → Rule → Bool
rule_test s g r =
    ltb r.state s && (ltb r.symbol g && (ltb r.target s && (below_test g (pushed r.push) && ltb 0 r.weight)))

below_of_test : (g : ℕ) (σ : List ℕ) → below_test g σ ≡ true → Below g σ
below_of_test g [] e = tt
below_of_test g (z ∷ σ) e = let h = (and-eq-true_iff (ltb z g) (below_test g σ)).0 e in (ltb-true z g h.0, below_of_test g σ h.1)

pub rule_of_test : (s g : ℕ) (r : Rule) → rule_test s g r ≡ true → IsRule s g r
rule_of_test s g r e =
    let a = (and-eq-true_iff (ltb r.state s) _).0 e in
    let b = (and-eq-true_iff (ltb r.symbol g) _).0 a.1 in
    let c = (and-eq-true_iff (ltb r.target s) _).0 b.1 in
    let d = (and-eq-true_iff (below_test g (pushed r.push)) (ltb 0 r.weight)).0 c.1 in
    record {
      state = ltb-true r.state s a.0;
      symbol = ltb-true r.symbol g b.0;
      target = ltb-true r.target s c.0;
      push = below_of_test g (pushed r.push) d.0;
      weight = ltb-true 0 r.weight d.1;
    }

pub rules_of_test : (s g : ℕ) (m : List Rule) → every (rule_test s g) m ≡ true → (r : Rule) → In r m → IsRule s g r
rules_of_test s g m e r i = rule_of_test s g r (in_every (rule_test s g) m e r i)

-- A rule is for one state and one top.
pub fits_exactly : (r : Rule) (p z : ℕ) → (fits r p z ≡ true) ↔ ((r.state ≡ p) × (r.symbol ≡ z))
unfolding fits
fits_exactly r p z =
    let both = and-eq-true_iff (eqb r.state p) (eqb r.symbol z) in (
      λ e. let h = both.0 e in (eqb-true r.state p h.0, eqb-true r.symbol z h.1),
      λ h. both.1 (eq-eqb r.state p h.0, eq-eqb r.symbol z h.1),
    )

module _ (m : List Rule) (p z : ℕ) where
  pub row_cong : (h k : Rule → ℕ) → ((r : Rule) → In r m → h r ≡ k r) → over_row m p z h ≡ over_row m p z k
  unfolding over_row
  row_cong h k e = sum_cong _ _ m (λ r i. ap (λ n. bit (fits r p z) * (r.weight * n)) (e r i))

  pub row_mono : (h k : Rule → ℕ) → ((r : Rule) → In r m → h r ≤ k r) → over_row m p z h ≤ over_row m p z k
  unfolding over_row
  row_mono h k e = sum_mono _ _ m (λ r i. mul-le-mul_left (bit (fits r p z)) (mul-le-mul_left r.weight (e r i)))

  pub row_add : (h k : Rule → ℕ) → over_row m p z (λ r. h r + k r) ≡ over_row m p z h + over_row m p z k
  unfolding over_row
  row_add h k = sum_cong _ _ m (λ r i. omega arith) ∙ sum_add (λ r. bit (fits r p z) * (r.weight * h r)) (λ r. bit (fits r p z) * (r.weight * k r)) m

  pub row_mul : (c : ℕ) (h : Rule → ℕ) → over_row m p z (λ r. c * h r) ≡ c * over_row m p z h
  unfolding over_row
  row_mul c h = sum_cong _ _ m (λ r i. omega arith) ∙ sum_mul c (λ r. bit (fits r p z) * (r.weight * h r)) m

  pub row_const : (c : ℕ) → over_row m p z (λ r. c) ≡ c * over_row m p z (λ r. 1)
  row_const c = ap (over_row m p z) (fun_ext (λ r. sym (mul-one c))) ∙ row_mul c (λ r. 1)

  -- Sums on two scales compare as their terms do.
  pub row_scaled : (a b : ℕ) (h k : Rule → ℕ) → ((r : Rule) → In r m → h r * a ≤ k r * b) → over_row m p z h * a ≤ over_row m p z k * b
  row_scaled a b h k e =
      rw (mul_comm (over_row m p z h) a, mul_comm (over_row m p z k) b, ← row_mul a h, ← row_mul b k)
      (row_mono _ _ (λ r i. omega (arith, e r i)))

  -- A sum of terms that are each at most a combination of two others.
  pub row_combined : (a b : ℕ) (h k l : Rule → ℕ) → ((r : Rule) → In r m → l r ≤ a * h r + b * k r)
      → over_row m p z l ≤ a * over_row m p z h + b * over_row m p z k
  row_combined a b h k l e = rw (← row_mul a h, ← row_mul b k, ← row_add (λ r. a * h r) (λ r. b * k r)) (row_mono l _ e)

  -- A sum over states of sums over rules is a sum over rules of sums over states.
  pub row_swap : (h : Rule → ℕ → ℕ) (n : ℕ) → sum_to (λ t. over_row m p z (λ r. h r t)) n ≡ over_row m p z (λ r. sum_to (h r) n)
  unfolding over_row
  row_swap h n =
      sum_swap (λ r t. bit (fits r p z) * (r.weight * h r t)) m n
      ∙ sum_cong _ _ m (λ r i. sum_to_mul (bit (fits r p z)) (λ t. r.weight * h r t) n ∙ ap (λ k. bit (fits r p z) * k) (sum_to_mul r.weight (h r) n))

  pub row_swap_mul : (h : Rule → ℕ → ℕ) (k : ℕ → ℕ) (n : ℕ)
      → sum_to (λ t. over_row m p z (λ r. h r t) * k t) n ≡ over_row m p z (λ r. sum_to (λ t. h r t * k t) n)
  row_swap_mul h k n =
      ap (λ e. sum_to e n)
      (fun_ext (λ t. mul_comm (over_row m p z (λ r. h r t)) (k t) ∙ sym (row_mul (k t) (λ r. h r t))
      ∙ ap (over_row m p z) (fun_ext (λ r. mul_comm (k t) (h r t)))))
      ∙ row_swap (λ r t. h r t * k t) n
