-- What a certificate (document 01's delivery) claims of a model with s states and g symbols, and what mission point 3 and request A.7 promise.
-- Uppers and lowers count 1/2^20, mean steps 1/2^8.
use Rattle.std.specs.Prelude.{ℕ, ◌+◌, ◌-◌, ◌*◌, ◌^◌, ◌≤◌, ◌<◌, true, false, List, ◌≡◌}
use Rattle.walks.specs.Order.{AtRows, AtEntries}
use Rattle.ppda.specs.Units.{weight_unit, chance_unit, most_chance, step_unit, sum_unit}
use Rattle.ppda.specs.Rules.{Rule}
use Rattle.ppda.specs.Chances.{chance, returned_within, mean}
use Rattle.ppda.specs.Equations.{Vector, RowVector, f, mean_side}
use Rattle.ppda.specs.Live.{is_live, alive}
use Rattle.ppda.specs.Margin.{whole, kept}

-- Uppers (document 001, Lemma 3): u ≥ f(u) at every entry.
abbrev pub Uppers : List Rule → ℕ → ℕ → Vector → Type 0
Uppers m s g u = (p z q : ℕ) → p < s → z < g → q < s → f m s chance_unit u p z q ≤ u p z q * sum_unit

-- Lowers beside uppers (document 001, Theorem 5), at one entry: l ≤ f(l), l ≤ u, the upper is in range, greater than f(u) at a live
-- entry and 0 at a dead one.
pub record LowerAt (m : List Rule) (s g : ℕ) (u l : Vector) (p z q : ℕ) : Type 0 where
  pub lower : l p z q * sum_unit ≤ f m s chance_unit l p z q
  pub below : l p z q ≤ u p z q
  pub range : u p z q ≤ most_chance
  pub strict : is_live (alive m s g p z q) ≡ true → f m s chance_unit u p z q < u p z q * sum_unit
  pub dead : is_live (alive m s g p z q) ≡ false → u p z q ≡ 0

-- Lowers at every entry.
abbrev pub Lowers : List Rule → ℕ → ℕ → Vector → Vector → Type 0
Lowers m s g u l = (p z q : ℕ) → p < s → z < g → q < s → LowerAt m s g u l p z q

-- Mean steps (document 001, Theorem 8): the figure of a row is at least the right side, by the uppers of the same certificate.
abbrev pub Means : List Rule → ℕ → ℕ → Vector → RowVector → Type 0
Means m s g u r = (p z : ℕ) → p < s → z < g → mean_side m s chance_unit step_unit u r p z ≤ r p z * sum_unit

-- A certificate with all three blocks.
pub record Certificate (m : List Rule) (s g : ℕ) (u l : Vector) (r : RowVector) : Type 0 where
  pub uppers : Uppers m s g u
  pub lowers : Lowers m s g u l
  pub means : Means m s g u r

-- ---- what mission point 3 and request A.7 promise, of one entry or row. Their inequalities stand here once; files, registers, printed lines, C hosts and counter machines cite them.

-- A chance c within n steps is at most the upper u: c counts 1/65,536^n, u counts 1/2^20.
abbrev pub AtMostUpper : ℕ → ℕ → ℕ → Type 0
AtMostUpper n c u = c * chance_unit ≤ u * weight_unit ^ n

-- "Every chance within n steps is at most the upper": of the entry (p, z, q), for the upper u.
abbrev pub UpperHolds : List Rule → ℕ → ℕ → ℕ → ℕ → Type 0
UpperHolds m p z q u = (n : ℕ) → AtMostUpper n (chance m n p z q) u

-- The most steps of a run that k rounds of f from zero hold (document 01, "Mistakes of method"; theorems `scale_is`, `rounds_le_chance`).
unfoldable pub steps_of : ℕ → ℕ
steps_of k = 2 ^ k - 1

-- A chance x within 2^k − 1 steps is at least the lower l less (1 − m)^k times the upper u, for 1 − m = c/h: x counts 1/65,536^(2^k − 1).
abbrev pub AtLeastLower : ℕ → ℕ → ℕ → ℕ → ℕ → ℕ → Type 0
AtLeastLower k x l u c h =
    l * weight_unit ^ steps_of k * h ^ k ≤ x * chance_unit * h ^ k + c ^ k * u * weight_unit ^ steps_of k

-- "Every chance within 2^k − 1 steps is at least the lower less (1 − m)^k times the upper": of the entry (p, z, q), for the lower l, the
-- upper u and 1 − m = c/h.
abbrev pub LowerBy : List Rule → ℕ → ℕ → ℕ → ℕ → ℕ → ℕ → ℕ → Type 0
LowerBy m p z q l u c h = (k : ℕ) → AtLeastLower k (chance m (steps_of k) p z q) l u c h

-- The same by the margin a that is shown: m is a/2^20, and so document 01 has it. Beside it with an m that is never 0: a/2^20, or 1/2^57 where a
-- is 0.
pub record LowerHolds (m : List Rule) (p z q l u a : ℕ) : Type 0 where
  pub as_shown : LowerBy m p z q l u (chance_unit - a) chance_unit
  pub above_zero : LowerBy m p z q l u (kept a) (whole a)

-- A mean x of steps counted to n is at most the figure r: x counts 1/65,536^n, r counts 1/2^8.
abbrev pub AtMostMean : ℕ → ℕ → ℕ → Type 0
AtMostMean n x r = x * step_unit ≤ r * weight_unit ^ n

-- "Every mean of steps counted to n is at most the figure": of the row (p, z), for the figure r.
abbrev pub MeanHolds : List Rule → ℕ → ℕ → ℕ → Type 0
MeanHolds m p z r = (n : ℕ) → AtMostMean n (mean m n p z) r

-- The tail of request A.7 ("tail" is its term): chances c within n steps, summed over all exits, come to at least 1 − r/n for the figure r. c counts 1/65,536^n, r counts
-- 1/2^8. Of n = 0 it says nothing, nor of an n of at most r steps.
abbrev pub AtLeastTail : ℕ → ℕ → ℕ → Type 0
AtLeastTail n c r = n * step_unit * weight_unit ^ n ≤ n * step_unit * c + r * weight_unit ^ n

-- "For every n of at least 1 the chances of having returned within n steps, summed over all exits, come to at least 1 − r/n": of the row (p, z) of a model with s states,
-- for the figure r.
abbrev pub TailHolds : List Rule → ℕ → ℕ → ℕ → ℕ → Type 0
TailHolds m s p z r = (n : ℕ) → AtLeastTail n (returned_within m s n p z) r

-- ---- and of every entry and row of a certificate, with its margin a

abbrev pub UppersHold : List Rule → ℕ → ℕ → Vector → Type 0
UppersHold m s g u = AtEntries s g (λ p z q. UpperHolds m p z q (u p z q))

abbrev pub LowersHold : List Rule → ℕ → ℕ → Vector → Vector → ℕ → Type 0
LowersHold m s g u l a = AtEntries s g (λ p z q. LowerHolds m p z q (l p z q) (u p z q) a)

abbrev pub MeansHold : List Rule → ℕ → ℕ → RowVector → Type 0
MeansHold m s g r = AtRows s g (λ p z. MeanHolds m p z (r p z))

abbrev pub TailsHold : List Rule → ℕ → ℕ → RowVector → Type 0
TailsHold m s g r = AtRows s g (λ p z. TailHolds m s p z (r p z))
