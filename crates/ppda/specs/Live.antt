-- Live entries, from runs and by rounds of f (document 01, "Equations"; "live" and "dead" are its terms).
use Rattle.std.specs.Prelude.{ℕ, zero, suc, ◌*◌, Bool, List, [], ◌∷◌, ◌≡◌, ltb}
use Rattle.std.proofs.Math.Option.{some}
use Rattle.walks.specs.Sums.{sign, In}
use Rattle.ppda.specs.Units.{weight_unit}
use Rattle.walks.specs.Order.{entries_in}
use Rattle.ppda.specs.Rules.{Rule}
use Rattle.walks.specs.Lists.{lists}
use Rattle.ppda.specs.Runs.{at, after}
use Rattle.ppda.specs.Equations.{Vector, f}

-- The entry is live: some finite run from state p with z alone empties the stack in q. It is dead otherwise.
pub record Live (m : List Rule) (p z q : ℕ) : Type 0 where
  pub steps : ℕ
  pub run : List Rule
  pub listed : In run (lists m steps)
  pub empties : after p (z ∷ []) run ≡ some (at q [])

-- What k rounds of f from zero everywhere count: 1/(scale k).
unfoldable pub scale : ℕ → ℕ
scale zero = 1
scale (suc k) = weight_unit * (scale k * scale k)

-- k rounds of f from zero everywhere, exact.
unfoldable pub rounds : List Rule → ℕ → ℕ → Vector
rounds m s zero = λ p z q. 0
rounds m s (suc k) = f m s (scale k) (rounds m s k)

-- The same rounds, of which only the sign is kept: 1 where k rounds give the entry more than zero, else 0.
unfoldable pub mark : List Rule → ℕ → ℕ → Vector
mark m s zero = λ p z q. 0
mark m s (suc k) = λ p z q. sign (f m s 1 (mark m s k) p z q)

-- Whether a mark says that its entry is live: it is above 0.
unfoldable pub is_live : ℕ → Bool
is_live a = ltb 0 a

-- The live mark: as many rounds as there are entries.
unfoldable pub alive : List Rule → ℕ → ℕ → Vector
alive m s g = mark m s (entries_in s g)
