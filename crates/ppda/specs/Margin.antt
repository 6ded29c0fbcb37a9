-- The margin of a certificate's uppers (document 01, "Deliveries"; "share" and "margin" are its terms).
use Rattle.std.specs.Prelude.{ℕ, zero, suc, ◌-◌, ◌*◌, ◌/◌, ◌^◌, Bool, cond, List}
use Rattle.walks.specs.Sums.{least_to}
use Rattle.ppda.specs.Units.{chance_unit, sum_unit}
use Rattle.ppda.specs.Rules.{Rule}
use Rattle.ppda.specs.Equations.{Vector, f}
use Rattle.ppda.specs.Live.{is_live, alive}

-- The share (u − f(u)) / u in 1/2^20, rounded down, for u in 1/2^20 and f(u) = y in 1/2^56.
unfoldable pub share : ℕ → ℕ → ℕ
share u y = (u * sum_unit - y) * chance_unit / (u * sum_unit)

-- An entry's part in the margin, by whether it is live: the share of a live entry. A dead one leaves the margin as it is.
unfoldable pub share_at : Bool → ℕ → ℕ → ℕ
share_at live u y = cond live (share u y) chance_unit

-- The margin, which document 01 shows where lowers stand: the least share over the live entries, and 2^20 where nothing is live. The least
-- of the rounded shares is the least share rounded.
unfoldable pub margin : List Rule → ℕ → ℕ → Vector → ℕ
margin m s g u =
    least_to chance_unit
    (λ p. least_to chance_unit (λ z. least_to chance_unit (λ q. share_at (is_live (alive m s g p z q)) (u p z q) (f m s chance_unit u p z q)) s) g) s

-- The m of mission point 3 for a margin is part/whole: margin/2^20, or 1/2^57 where the margin is 0 and document 01's m would be 0 (a strict
-- upper leaves at least 1/2^56, and u is at most 2^57 such parts).
abbrev pub part : ℕ → ℕ
part zero = 1
part (suc a) = suc a

-- The denominator of m.
abbrev pub whole : ℕ → ℕ
whole zero = 2 ^ 57
whole (suc a) = chance_unit

-- 1 − m is kept/whole.
unfoldable pub kept : ℕ → ℕ
kept a = whole a - part a
