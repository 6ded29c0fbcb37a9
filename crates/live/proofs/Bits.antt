-- Exits as the bits of a number: joining two rows' exits adds what they count, as far as its sign goes.
use Prim.Native.Nat.{ℕ, zero, suc, ◌+◌, ◌*◌, ◌/◌, ◌%◌, ◌^◌, ◌≤◌, ◌<◌, max}
use native.Mathlib.Nat.{zero-add, add-zero, add-suc, mul_comm, zero-mul, mul-zero, one-mul, pow-suc, zero-max, mod-lt, zero-div, mul-div_cancel, div-div-eq-div-mul}
use native.Mathlib.Numerals.{unary_clauses}
use native.Mathlib.Omega.{arith}
use mathlib.Core.List.{List}
use mathlib.Core.Path.{◌≡◌, refl, sym, ap, ap₂, ◌∙◌}
use lib.Bits.{bit_or, or_step, or_shr}
use lib.Dec.{eqb, eqb-zero-suc, eqb-suc-zero, eqb-suc-suc, lit≤}
use lib.ListN.{get_or}
use Rattle.walks.specs.Sums.{bit, sign, sum_to}
use Rattle.ppda.specs.Rules.{Push, nothing, one, two}
use Rattle.ppda.specs.Equations.{through, f}
use Rattle.walks.proofs.Sums.{sum_to_step}
use Rattle.model.specs.Records.{target, weight}
use Rattle.live.specs.Clauses.{bit_of, exit_marks, mark_product, next_mark}
use Rattle.rows.specs.Clauses.{Starts}
use Rattle.model.specs.Clauses.{Sized}
use Rattle.model.specs.Rules.{push_at}
use Rattle.walks.proofs.Sums.{sum_to_none}
use Rattle.rows.proofs.Sums.{RowSum, row_begin, row_record, row_more, row_end}

-- ---- signs

sign_bit : (n : ℕ) → n ≤ 1 → sign n ≡ n
unfolding sign
sign_bit zero h = refl
sign_bit (suc zero) h = refl
sign_bit (suc (suc n)) h = absurd (omega arith)

sign_add : (m n : ℕ) → max (sign m) (sign n) ≡ sign (m + n)
unfolding sign
sign_add zero n = rw (zero-max, zero-add)
sign_add (suc m) zero = rw add-zero
sign_add (suc m) (suc n) = rw add-suc

sign_none : sign 0 ≡ 0
unfolding sign
sign_none = refl

-- A weight above 0 leaves the sign.
sign_weighed : (w n : ℕ) → 0 < w → sign (w * n) ≡ sign n
unfolding sign
sign_weighed zero n h = absurd (omega arith)
sign_weighed (suc w) zero h = rw mul-zero
sign_weighed (suc w) (suc n) h = simp unary_clauses

-- ---- bits

bit_most : (n q : ℕ) → bit_of n q ≤ 1
bit_most n q = omega (arith, mod-lt (n / 2 ^ q) {m = 2} (lit≤ tt))

pub bit_none : (q : ℕ) → bit_of 0 q ≡ 0
bit_none q = rw (zero-div (2 ^ q))

bit_next : (n q : ℕ) → bit_of n (suc q) ≡ bit_of (n / 2) q
bit_next n q = ap (λ m. n / m % 2) (pow-suc 2 q ∙ mul_comm (2 ^ q) 2) ∙ ap (λ m. m % 2) (sym (div-div-eq-div-mul n 2 (2 ^ q)))

-- The exit r alone.
bit_power : (r q : ℕ) → bit_of (2 ^ r) q ≡ bit (eqb r q)
bit_power zero zero = refl
bit_power zero (suc q) = rw (bit_next 1 q, bit_none q, eqb-zero-suc q)
bit_power (suc r) zero = rw (pow-suc 2 r, eqb-suc-zero r) (omega arith)
bit_power (suc r) (suc q) =
    rw (bit_next (2 ^ suc r) q, eqb-suc-suc r q, pow-suc 2 r, mul-div_cancel (2 ^ r) {n = 2} (lit≤ tt)) (bit_power r q)

pub bit_or_lem : (a b q : ℕ) → bit_of (bit_or a b) q ≡ max (bit_of a q) (bit_of b q)
bit_or_lem a b q = rw (or_shr a b q) (last (a / 2 ^ q) (b / 2 ^ q))
  where
    last : (m n : ℕ) → bit_or m n % 2 ≡ max (m % 2) (n % 2)
    last m n = omega (arith, or_step m n)

bit_sign : (n q : ℕ) → bit_of n q ≡ sign (bit_of n q)
bit_sign n q = sym (sign_bit (bit_of n q) (bit_most n q))

-- The bit of two rows' exits joined, by the signs of the two.
bit_join : (j a b q m n : ℕ) → bit_of j q ≡ max (bit_of a q) (bit_of b q) → bit_of a q ≡ sign m → bit_of b q ≡ sign n → bit_of j q ≡ sign (m + n)
bit_join j a b q m n both ha hb = both ∙ ap₂ max ha hb ∙ sign_add m n

-- ---- the exits of two symbols, state by state

-- n has the exits by way of the states before t, where a is the first symbol's exits and x the second symbol.
pub record TwoTo (g : ℕ) (l : List ℕ) (a x s t n : ℕ) : Type 0 where
  pub to : t ≤ s
  pub exits : (q : ℕ) → bit_of n q ≡ sign (sum_to (mark_product g l a x q) t)

pub two_none : {g : ℕ} {l : List ℕ} {a x s : ℕ} → TwoTo g l a x s 0 0
two_none = record { to = omega arith; exits = λ q. bit_none q ∙ sym (ap sign (sum_to_none _) ∙ sign_none) }

module _ {g : ℕ} {l : List ℕ} {a x s t n : ℕ} (two : TwoTo g l a x s t n) where
  pub two_with : {k j m : ℕ} → t < s → bit_of a t ≡ 1 → k ≡ t * g + x
      → ((q : ℕ) → bit_of j q ≡ max (bit_of n q) (bit_of (get_or l k 0) q)) → m ≡ j → TwoTo g l a x s (t + 1) m
  two_with {k} {j} {m} h on place both e =
      record {
        to = omega arith;
        exits = λ q.
            let term : bit_of (get_or l k 0) q ≡ mark_product g l a x q t = rw (on, place) (sym (one-mul _)) in
            rw (e, sum_to_step) (bit_join j n (get_or l k 0) q _ _ (both q) (two.exits q) (bit_sign (get_or l k 0) q ∙ ap sign term));
      }

  pub two_without : {k : ℕ} → t < s → bit_of a t ≡ 0 → k ≡ n → TwoTo g l a x s (t + 1) k
  two_without {k} h off e =
      record {
        to = omega arith;
        exits = λ q.
            let term : mark_product g l a x q t ≡ 0 = rw off (zero-mul _) in rw (e, sum_to_step, term, add-zero) (two.exits q);
      }

  pub two_end : s ≤ t → (q : ℕ) → bit_of n q ≡ sign (sum_to (mark_product g l a x q) s)
  two_end h q = let e : t ≡ s = omega (arith, two.to) in two.exits q ∙ ap (λ m. sign (sum_to (mark_product g l a x q) m)) e

-- ---- the exits that a record gives, by what it pushes

module _ (s g : ℕ) (l : List ℕ) (r q : ℕ) {a : Push} where
  pub through_nothing : {n : ℕ} → a ≡ nothing → n ≡ 2 ^ r → bit_of n q ≡ sign (through s 1 (exit_marks g l) r a q)
  through_nothing e same = rw (e, same) (bit_sign (2 ^ r) q ∙ ap sign (bit_power r q ∙ sym (one-mul _)))

  pub through_one : {y k : ℕ} → a ≡ one y → k ≡ r * g + y → bit_of (get_or l k 0) q ≡ sign (through s 1 (exit_marks g l) r a q)
  through_one e place = rw (e, place) (bit_sign _ q ∙ ap sign (sym (one-mul _)))

  pub through_two : {y x k u n : ℕ} → a ≡ two y x → k ≡ r * g + y → u ≡ x → n ≡ sign (sum_to (mark_product g l (get_or l k 0) u q) s)
      → n ≡ sign (through s 1 (exit_marks g l) r a q)
  through_two e place same exits = rw e (rw (place, same) at exits)

-- ---- the exits of a row, record by record

-- n has exit q of row k by the row's records before record i; they are those from a to e.
pub record ExitTo (b : List ℕ) (s g : ℕ) (marks : List ℕ) (k a e i n q : ℕ) : Type 0 where
  pub count : ℕ
  pub row : RowSum b s g (k / g) (k % g) (λ r x. through s 1 (exit_marks g marks) r x q) k a e 0 i count
  pub exit : bit_of n q ≡ sign count

pub exits_none : (b : List ℕ) (s g : ℕ) (marks : List ℕ) (k : ℕ) (l : List ℕ) → Sized b s g → Starts b g (s * g) l → k < s * g
    → (q : ℕ) → ExitTo b s g marks k (get_or l k 0) (get_or l (k + 1) 0) (get_or l k 0) 0 q
exits_none b s g marks k l sized starts below q =
    record {
      count = 0;
      row = row_begin k 0 (λ r x. through s 1 (exit_marks g marks) r x q) l sized starts below;
      exit = bit_none q ∙ sym sign_none;
    }

module _ {b : List ℕ} {s g : ℕ} {marks : List ℕ} {k a e i n q : ℕ} (at : ExitTo b s g marks k a e i n q) where
  pub exits_more : {j : ℕ} (m : ℕ) → i < e → bit_of m q ≡ sign (through s 1 (exit_marks g marks) (target b i) (push_at b i) q)
      → bit_of j q ≡ max (bit_of n q) (bit_of m q) → ExitTo b s g marks k a e (i + 1) j q
  exits_more {j} m l same both =
      let weighed = (at.row.sized.file.records.right i (row_record at.row l)).weight_some in
      record {
        count = at.count + weight b i * through s 1 (exit_marks g marks) (target b i) (push_at b i) q;
        row = row_more at.row l refl refl;
        exit = bit_join j n m q _ _ both at.exit (same ∙ sym (sign_weighed (weight b i) _ weighed));
      }

  pub exits_end : e ≤ i → bit_of n q ≡ next_mark b s g marks (k / g) (k % g) q
  unfolding next_mark f
  exits_end l = at.exit ∙ ap sign (row_end at.row l ∙ zero-add _)
