-- Rounds of marks in a list are the theory's rounds, and once a round changes nothing no later round does.
use Prim.Native.Nat.{ℕ, zero, suc, ◌+◌, ◌*◌, ◌/◌, ◌%◌, ◌≤◌, ◌<◌}
use native.Mathlib.Nat.{eq-or-lt_of_le, le_of_suc-le-suc}
use native.Mathlib.Numerals.{add-one}
use native.Mathlib.Omega.{arith}
use mathlib.Core.Bool.{Bool, true, false}
use mathlib.Core.List.{List}
use mathlib.Core.Logic.{◌⊎◌, inl, inr}
use mathlib.Core.Path.{◌≡◌, refl, sym, ap, ◌∙◌}
use lib.Dec.{eqb}
use lib.ListN.{length, get_or, set, replicate, length-set, length-replicate}
use lib.Seq.{get_or-set_same, get_or-set_other}
use borrow.Author.Tests.{eqb-true, eqb-false}
use Rattle.walks.specs.Sums.{sign}
use Rattle.ppda.specs.Rules.{Rule, IsModel}
use Rattle.ppda.specs.Equations.{Same, f}
use Rattle.ppda.specs.Live.{mark, alive}
use Rattle.model.specs.Rules.{rules_of}
use Rattle.walks.proofs.Lists.{get_d_zeros}
use Rattle.walks.proofs.Places.{row_at_lem, row_below}
use Rattle.live.specs.Clauses.{bit_of, exit_marks, ExitsOf, next_mark, NextExits, RoundTo}
use Rattle.model.specs.Clauses.{Sized}
use Rattle.live.proofs.Bits.{bit_none}
use Rattle.model.specs.Format.{most_rows}
use Rattle.model.proofs.Accepted.{sized_model}
use Rattle.ppda.proofs.Vectors.{f_same}

-- ---- one round, row by row

module _ {b : List ℕ} {s g : ℕ} {marks : List ℕ} where
  -- One row more.
  pub round_more : {l : List ℕ} {n : ℕ} (m : ℕ) → RoundTo b s g marks n l → n < most_rows → NextExits b s g marks (n / g) (n % g) m
      → RoundTo b s g marks (n + 1) (set l n m)
  round_more {l} {n} m to below next =
      record { size = length-set l n m ∙ to.size; done = λ p z hp hz h. done p z hp hz h (eqb (p * g + z) n) refl }
    where
      done : (p z : ℕ) → p < s → z < g → p * g + z < n + 1 → (t : Bool) → eqb (p * g + z) n ≡ t
          → NextExits b s g marks p z (get_or (set l n m) (p * g + z) 0)
      done p z hp hz h true u =
          let e : p * g + z ≡ n = eqb-true (p * g + z) n u in
          let (state, symbol) = row_at_lem g p z hz in
          let here = rw (← e, state, symbol) at next in
          rw (e, get_or-set_same l n m 0 (omega (arith, to.size))) here
      done p z hp hz h false u =
          let other = eqb-false (p * g + z) n u in
          rw (get_or-set_other l n (p * g + z) m 0 other) (to.done p z hp hz (omega arith))

-- ---- all rounds

pub no_exits : (m : List Rule) (s g : ℕ) {l : List ℕ} → l ≡ replicate most_rows 0 → ExitsOf s g (mark m s 0) l
unfolding mark
no_exits m s g e =
    rw e (record { size = length-replicate {A = ℕ} most_rows 0; marks = λ p z q hp hz hq. rw (get_d_zeros most_rows (p * g + z)) (bit_none q) })

-- So many rounds by another name.
pub after_rounds : (m : List Rule) (s g : ℕ) {k j : ℕ} {l : List ℕ} → k ≡ j → ExitsOf s g (mark m s k) l → ExitsOf s g (mark m s j) l
after_rounds m s g e held = rw e at held

mark_next : (m : List Rule) (s k p z q : ℕ) → mark m s (k + 1) p z q ≡ sign (f m s 1 (mark m s k) p z q)
unfolding mark
mark_next m s k p z q = rw add-one

module _ {m : List Rule} {s g : ℕ} (model : IsModel s g m) (k : ℕ) (still : Same s g (mark m s k) (mark m s (k + 1))) where
  -- Once a round changes nothing, no later round does.
  marks_stay : (j : ℕ) → k ≤ j → Same s g (mark m s k) (mark m s j)
  marks_stay zero l = λ p z q hp hz hq. let e : k ≡ 0 = omega arith in rw e
  marks_stay (suc j) l = go (eq-or-lt_of_le l) (λ h. marks_stay j h)
    where
      go : (k ≡ suc j) ⊎ (k < suc j) → (k ≤ j → Same s g (mark m s k) (mark m s j)) → Same s g (mark m s k) (mark m s (suc j))
      go (inl e) rest p z q hp hz hq = rw e
      go (inr h) rest p z q hp hz hq =
          still p z q hp hz hq
          ∙ mark_next m s k p z q
          ∙ ap sign (f_same model 1 (mark m s k) (mark m s j) (rest (le_of_suc-le-suc h)) p z q hq)
          ∙ sym (mark_next m s j p z q)
          ∙ ap (λ n. mark m s n p z q) (add-one j)

-- The list has the marks of k rounds.
module _ {b : List ℕ} {s g : ℕ} (sized : Sized b s g) (marks : List ℕ) (k : ℕ) (held : ExitsOf s g (mark (rules_of b) s k) marks) where
  -- One round more.
  one_more : {next : List ℕ} → RoundTo b s g marks (s * g) next → Same s g (exit_marks g next) (mark (rules_of b) s (k + 1))
  unfolding next_mark
  one_more to p z q hp hz hq =
      to.done p z hp hz (row_below s g p z hp hz) q hq
      ∙ ap sign (f_same (sized_model sized) 1 (exit_marks g marks) (mark (rules_of b) s k) held.marks p z q hq)
      ∙ sym (mark_next (rules_of b) s k p z q)

  -- A list with the rows of the next round has the marks of one round more.
  pub marks_next : {next l : List ℕ} → RoundTo b s g marks (s * g) next → length l ≡ most_rows
      → ((e : ℕ) → e < s * g → get_or l e 0 ≡ get_or next e 0) → ExitsOf s g (mark (rules_of b) s (k + 1)) l
  marks_next to size copied =
      record {
        size = size;
        marks = λ p z q hp hz hq. ap (λ n. bit_of n q) (copied (p * g + z) (row_below s g p z hp hz)) ∙ one_more to p z q hp hz hq;
      }

  -- As many rounds as there are entries, or a round that changes nothing, give the live marks.
  pub marks_all : k ≡ s * g * s → ExitsOf s g (alive (rules_of b) s g) marks
  unfolding alive
  marks_all e =
      record { size = held.size; marks = λ p z q hp hz hq. held.marks p z q hp hz hq ∙ ap (λ n. mark (rules_of b) s n p z q) e }

  pub marks_unchanged : {next : List ℕ} → k ≤ s * g * s → RoundTo b s g marks (s * g) next
      → ((e : ℕ) → e < s * g → get_or marks e 0 ≡ get_or next e 0) → ExitsOf s g (alive (rules_of b) s g) marks
  unfolding alive
  marks_unchanged l to unchanged =
      record {
        size = held.size;
        marks = λ p z q hp hz hq. held.marks p z q hp hz hq ∙ marks_stay (sized_model sized) k still (s * g * s) l p z q hp hz hq;
      }
    where
      still : Same s g (mark (rules_of b) s k) (mark (rules_of b) s (k + 1))
      still p z q hp hz hq =
          sym (held.marks p z q hp hz hq)
          ∙ ap (λ n. bit_of n q) (unchanged (p * g + z) (row_below s g p z hp hz))
          ∙ one_more to p z q hp hz hq
