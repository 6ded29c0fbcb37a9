-- An accepted delivery in plain words: no reason of document 01's list 20 to 27 applies.
use Rattle.std.specs.Prelude.{ℕ, ◌+◌, ◌*◌, ◌≤◌, ◌<◌, true, List, ◌≡◌, Some}
use Rattle.ppda.specs.Units.{chance_unit, sum_unit}
use Rattle.ppda.specs.Equations.{f}
use Rattle.ppda.specs.Live.{Live}
use Rattle.ppda.specs.Bounds as Bounds
use Rattle.model.specs.Records.{states_of, symbols_of}
use Rattle.model.specs.Rules.{rules_of}
use Rattle.model.specs.Accepted.{ModelFile}
use Rattle.delivery.specs.declared.shape.Block.{Block}
use Rattle.delivery.specs.declared.shape.Block.TheVariants.{Uppers, Lowers, Means}
use Rattle.delivery.specs.declared.shape.Shape.{Shape}
use Rattle.delivery.specs.Records.{kind_at, state_at, symbol_at, exit_at, value_at, kind_of, least_of, most_of}
use Rattle.delivery.specs.Shapes.{has_lowers, has_means, means_from, shape_of}
use Rattle.walks.specs.Order.{entries_in, row_at, entry_at, AtRows, AtEntries}
use Rattle.delivery.specs.Numbers.{uppers_of, lowers_of, means_of}

-- Record i is the one due there (21), with a value in range (22).
pub record RecordDue (d : List ℕ) (i : ℕ) (k : Block) (p z q : ℕ) : Type 0 where
  pub kind : kind_at d i ≡ kind_of k
  pub state : state_at d i ≡ p
  pub symbol : symbol_at d i ≡ z
  pub exit : exit_at d i ≡ q
  pub least : least_of k ≤ value_at d i
  pub most : value_at d i ≤ most_of k

-- The uppers: each record is due, a dead entry is 0 (23), and u ≥ f(u) (24).
pub record UppersRight (b : List ℕ) (s g : ℕ) (d : List ℕ) : Type 0 where
  pub due : AtEntries s g (λ p z q. RecordDue d (entry_at s g p z q) Uppers p z q)
  pub dead : AtEntries s g (λ p z q. (Live (rules_of b) p z q → ⊥) → uppers_of s g d p z q ≡ 0)
  pub upper : Bounds.Uppers (rules_of b) s g (uppers_of s g d)

-- The lowers: each record is due, a dead entry is 0 (23), u > f(u) at a live entry (24), l ≤ u (25) and l ≤ f(l) (26).
pub record LowersRight (b : List ℕ) (s g : ℕ) (d : List ℕ) : Type 0 where
  pub due : AtEntries s g (λ p z q. RecordDue d (entries_in s g + entry_at s g p z q) Lowers p z q)
  pub dead : AtEntries s g (λ p z q. (Live (rules_of b) p z q → ⊥) → lowers_of s g d p z q ≡ 0)
  pub strict : AtEntries s g (λ p z q.
      Live (rules_of b) p z q → f (rules_of b) s chance_unit (uppers_of s g d) p z q < uppers_of s g d p z q * sum_unit)
  pub below : AtEntries s g (λ p z q. lowers_of s g d p z q ≤ uppers_of s g d p z q)
  pub lower : AtEntries s g (λ p z q. lowers_of s g d p z q * sum_unit ≤ f (rules_of b) s chance_unit (lowers_of s g d) p z q)

-- The mean steps: each record is due, and the inequality holds (27).
pub record MeansRight (b : List ℕ) (s g : ℕ) (h : Shape) (d : List ℕ) : Type 0 where
  pub due : AtRows s g (λ p z. RecordDue d (means_from s g h + row_at g p z) Means p z 0)
  pub mean : Bounds.Means (rules_of b) s g (uppers_of s g d) (means_of s g h d)

-- A delivery file of shape h for the model b.
pub record DeliveryFile (b d : List ℕ) (h : Shape) : Type 0 where
  pub shape : shape_of (states_of b) (symbols_of b) d ≡ Some h
  pub uppers : UppersRight b (states_of b) (symbols_of b) d
  pub lowers : has_lowers h ≡ true → LowersRight b (states_of b) (symbols_of b) d
  pub means : has_means h ≡ true → MeansRight b (states_of b) (symbols_of b) h d

-- A model file and a delivery file for it.
pub record RightFiles (b d : List ℕ) : Type 0 where
  pub model : ModelFile b
  pub shaped : Shape
  pub delivery : DeliveryFile b d shaped
