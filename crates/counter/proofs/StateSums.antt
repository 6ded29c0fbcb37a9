-- The sums of the states as the loop over the records makes them, all in one list.
use Prim.Native.Nat.{ℕ, ◌+◌, ◌*◌, ◌≤◌, ◌<◌}
use native.Mathlib.Omega.{arith}
use mathlib.Core.Bool.{Bool, true, false}
use mathlib.Core.List.{List}
use mathlib.Core.Path.{◌≡◌, refl, sym, ap, ap₂, ◌∙◌}
use lib.Dec.{eqb}
use lib.ListN.{length, get_or, set, replicate, length-set}
use lib.Seq.{get_or-set_same, get_or-set_other}
use borrow.Author.Tests.{eqb-true, eqb-false, eq-eqb, ne_eqb}
use Rattle.walks.specs.Sums.{bit, sum_to}
use Rattle.walks.specs.Lists.{list_to}
use Rattle.walks.proofs.Sums.{sum_to_none, sum_to_le, sum_to_step}
use Rattle.walks.proofs.Lists.{get_d_zeros, length_list_to, get_d_list_to, list_to_ext}
use Rattle.ppda.specs.Units.{weight_unit}
use Rattle.model.specs.Format.{most_states}
use Rattle.counter.specs.Records.{moves_in, from_at, weight_in}
use Rattle.counter.specs.Verdict.{state_sum}
use Rattle.counter.specs.Accepted.{MovesRight}

-- What record i adds to state u, and the sum of state u over the first n records.
abbrev adds : List ℕ → ℕ → ℕ → ℕ
adds c u i = bit (eqb (from_at c i) u) * weight_in c i

abbrev pub sum_before : List ℕ → ℕ → ℕ → ℕ
sum_before c n u = sum_to (adds c u) n

-- No record yet.
pub sums_none : (c : List ℕ) → replicate most_states 0 ≡ list_to (sum_before c 0) most_states
sums_none c = list_to_ext most_states refl (λ u l. get_d_zeros most_states u ∙ sym (sum_to_none (adds c u)))

-- All records.
pub sums_all : (c : List ℕ) (n : ℕ) → n ≡ moves_in c → list_to (sum_before c n) most_states ≡ list_to (state_sum c) most_states
unfolding state_sum
sums_all c n e = rw e

module _ (c : List ℕ) (n : ℕ) where
  -- No sum exceeds 65,536 a record.
  pub sum_within : MovesRight c → n ≤ moves_in c → (u : ℕ) → sum_before c n u ≤ n * weight_unit
  sum_within right most u = sum_to_le (adds c u) weight_unit n (λ i l. go (eqb (from_at c i) u) i (omega arith))
    where
      go : (t : Bool) (i : ℕ) → i < moves_in c → bit t * weight_in c i ≤ weight_unit
      go true i l = omega (arith, (right.right i l).weight_most)
      go false i l = omega arith

  -- One record more changes the sum of its state, and no other.
  module _ (l : List ℕ) (same : l ≡ list_to (sum_before c n) most_states) where
    long : length l ≡ most_states
    long = ap length same ∙ length_list_to (sum_before c n) most_states

    pub sum_at : (u : ℕ) → u < most_states → get_or l u 0 ≡ sum_before c n u
    sum_at u h = ap (λ k. get_or k u 0) same ∙ get_d_list_to (sum_before c n) most_states u h

    own : (u w : ℕ) → u < most_states → u ≡ from_at c n → w ≡ weight_in c n → get_or l u 0 + w ≡ sum_before c (n + 1) u
    own u w h e k = ap₂ ◌+◌ (sum_at u h) (k ∙ sym (rw (eq-eqb (from_at c n) u (sym e)) (omega arith))) ∙ sym (sum_to_step (adds c u) n)

    other : (u : ℕ) → u < most_states → (from_at c n ≡ u → ⊥) → get_or l u 0 ≡ sum_before c (n + 1) u
    other u h ne = sum_at u h ∙ sym (sum_to_step (adds c u) n ∙ rw (ne_eqb (from_at c n) u ne) (omega arith))

    pub sums_more : (at w : ℕ) → at ≡ from_at c n → at < most_states → w ≡ weight_in c n
        → set l at (get_or l at 0 + w) ≡ list_to (sum_before c (n + 1)) most_states
    sums_more at w e h k = list_to_ext most_states (length-set l at (get_or l at 0 + w) ∙ long) (λ u m. go u m (eqb u at) refl)
      where
        go : (u : ℕ) → u < most_states → (t : Bool) → eqb u at ≡ t → get_or (set l at (get_or l at 0 + w)) u 0 ≡ sum_before c (n + 1) u
        go u m true q =
            let s : u ≡ at = eqb-true u at q in
            rw s (get_or-set_same l at (get_or l at 0 + w) 0 (rw long h) ∙ own at w h e k)
        go u m false q =
            let d : u ≡ at → ⊥ = eqb-false u at q in
            get_or-set_other l at u (get_or l at 0 + w) 0 d ∙ other u m (λ f. d (sym f ∙ sym e))
