-- Text in a buffer: texts that are put one after the other, by a loop too, are their join.
use Prim.Native.Nat.{ℕ, ◌+◌, ◌*◌, ◌≤◌, ◌<◌}
use native.Mathlib.Numerals.{add-one}
use native.Mathlib.Omega.{arith}
use mathlib.Core.List.{List, [], ◌∷◌, ◌++◌, map, append_assoc, append-nil}
use mathlib.Core.Path.{◌≡◌, refl, sym, ap, subst, ◌∙◌}
use lib.ListN.{length, take, get_or, length-append}
use lib.Seq.{take-suc}
use Rattle.text.specs.Decimal.{decimal}
use Rattle.text.specs.Texts.{fields}
use Rattle.text.specs.Clauses.{spaced, Put}
use Rattle.walks.specs.Lists.{each}

-- Nothing.
pub put_none : (a : List ℕ) (at : ℕ) → Put a a at at []
put_none a at = record { size = refl; long = omega arith; puts = sym (append-nil (take at a)) }

-- A text, and then another.
pub put_then : {a b c : List ℕ} {at m e : ℕ} {t u : List ℕ} → Put a b at m t → Put b c m e u → Put a c at e (t ++ u)
put_then {t = t} {u = u} p q =
    record {
      size = q.size ∙ p.size;
      long = omega (arith, length-append t u);
      puts = q.puts ∙ rw (p.puts, append_assoc);
    }

-- The same text.
pub put_as : {a b : List ℕ} {at e : ℕ} {t u : List ℕ} → t ≡ u → Put a b at e t → Put a b at e u
put_as {a} {b} {at} {e} same p = subst (Put a b at e) same p

-- One text more of those that are joined.
pub put_join : {a b c : List ℕ} {at m e : ℕ} (h : ℕ → List ℕ) (i : ℕ) → Put a b at m (each i h) → Put b c m e (h i)
    → Put a c at e (each (i + 1) h)
unfolding each
put_join h i p q = rw add-one (put_then p q)

-- A loop that puts one text of a join at each turn, each of at most k bytes, after i of n turns.
pub record Joined (h : ℕ → List ℕ) (k n : ℕ) (before after : List ℕ) (at end i : ℕ) : Type 0 where
  pub to : i ≤ n
  pub most : end ≤ at + k * i
  pub join : Put before after at end (each i h)

pub joined_none : (h : ℕ → List ℕ) (k n : ℕ) (a : List ℕ) (at : ℕ) → Joined h k n a a at at 0
unfolding each
joined_none h k n a at = record { to = omega arith; most = omega arith; join = put_none a at }

pub joined_more : {h : ℕ → List ℕ} {k n : ℕ} {a b c : List ℕ} {at m e i : ℕ} → Joined h k n a b at m i → i < n
    → Put b c m e (h i) × (e ≤ m + k) → Joined h k n a c at e (i + 1)
joined_more {h} {i = i} so turn text =
    record { to = omega arith; most = omega arith; join = put_join h i so.join text.0 }

pub joined_all : {h : ℕ → List ℕ} {k n : ℕ} {a b : List ℕ} {at e i : ℕ} → Joined h k n a b at e i → n ≤ i
    → Put a b at e (each n h) × (e ≤ at + k * n)
joined_all {h} {n = n} {i = i} so done =
    let all : i ≡ n = omega arith in (put_as (ap (λ j. each j h) all) so.join, rw (← all) so.most)

-- The same of as many lists by another number.
pub joined_as : (h : ℕ → List ℕ) {n m : ℕ} {a b : List ℕ} {at e : ℕ} → n ≡ m → Put a b at e (each n h) → Put a b at e (each m h)
joined_as h all text = put_as (ap (λ j. each j h) all) text

-- ---- fields

spaced_append : (l k : List ℕ) → spaced (l ++ k) ≡ spaced l ++ spaced k
spaced_append [] k = refl
spaced_append (n ∷ l) k = ap (λ t. 32 ∷ t) (rw (spaced_append l k, append_assoc))

-- One number more.
spaced_more : (l : List ℕ) (i : ℕ) → i < length l → spaced (take (i + 1) l) ≡ spaced (take i l) ++ (32 ∷ decimal (get_or l i 0))
spaced_more l i h = rw (add-one, take-suc l i 0, spaced_append) (ap (λ t. spaced (take i l) ++ (32 ∷ t)) (append-nil (decimal (get_or l i 0))))

-- A loop that puts the numbers l, after i turns.
pub record Spaced (l before after : List ℕ) (at end i : ℕ) : Type 0 where
  pub to : i ≤ length l
  pub most : end ≤ at + 21 * i
  pub some : Put before after at end (spaced (take i l))

pub spaced_one : {l a b c : List ℕ} {at m e i : ℕ} → Spaced l a b at m i → i < length l
    → Put b c m e (32 ∷ decimal (get_or l i 0)) × (e ≤ m + 21) → Spaced l a c at e (i + 1)
spaced_one {l} {i = i} so turn field =
    record { to = omega arith; most = omega arith; some = put_as (sym (spaced_more l i turn)) (put_then so.some field.0) }

-- The fields of numbers, and fields after them, are the fields of both.
spaced_fields : (l : List ℕ) (xs : List (List ℕ)) → spaced l ++ fields xs ≡ fields (map decimal l ++ xs)
spaced_fields [] xs = refl
spaced_fields (n ∷ l) xs = ap (λ t. 32 ∷ t) (rw append_assoc (ap (λ t. decimal n ++ t) (spaced_fields l xs)))

pub put_fields : {a b c : List ℕ} {at m e : ℕ} (w l : List ℕ) (xs : List (List ℕ)) → Put a b at m (w ++ spaced l)
    → Put b c m e (fields xs) → Put a c at e (w ++ fields (map decimal l ++ xs))
put_fields w l xs p q = put_as (rw (append_assoc, spaced_fields)) (put_then p q)
