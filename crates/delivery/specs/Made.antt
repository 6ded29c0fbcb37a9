-- A delivery file made of numbers: the records of its blocks, one after the other.
use Rattle.std.specs.Prelude.{ℕ, ◌≤◌, true, cond, List, [], ◌∷◌, ◌++◌, ◌≡◌}
use Rattle.words.specs.Words.{four_bytes}
use Rattle.walks.specs.Order.{AtRows, AtEntries, each_row, each_entry}
use Rattle.ppda.specs.Equations.{Vector, RowVector}
use Rattle.delivery.specs.declared.shape.Block.{Block}
use Rattle.delivery.specs.declared.shape.Block.TheVariants.{Uppers, Lowers, Means}
use Rattle.delivery.specs.declared.shape.Shape.{Shape}
use Rattle.delivery.specs.Records.{kind_of, least_of, most_of}
use Rattle.delivery.specs.Shapes.{has_lowers, has_means}

-- The eight bytes of a record, of any kind, p, Z, q and value.
abbrev pub delivery_record : ℕ → ℕ → ℕ → ℕ → ℕ → List ℕ
delivery_record k p z q v = k ∷ p ∷ z ∷ q ∷ four_bytes v

-- A block of entries, ascending by (p, Z, q), and the mean steps, ascending by (p, Z).
unfoldable pub entry_records : ℕ → ℕ → Block → Vector → List ℕ
entry_records s g k v = each_entry s g (λ p z q. delivery_record (kind_of k) p z q (v p z q))

unfoldable pub row_records : ℕ → ℕ → RowVector → List ℕ
row_records s g r = each_row s g (λ p z. delivery_record (kind_of Means) p z 0 (r p z))

-- The file of shape h with these uppers, lowers and mean steps. Lowers and mean steps that the shape does not have are left out.
unfoldable pub made_delivery : ℕ → ℕ → Shape → Vector → Vector → RowVector → List ℕ
made_delivery s g h u l r =
    entry_records s g Uppers u ++ (cond (has_lowers h) (entry_records s g Lowers l) [] ++ cond (has_means h) (row_records s g r) [])

-- The numbers that the shape has are in the range of their blocks.
pub record NumbersFit (s g : ℕ) (h : Shape) (u l : Vector) (r : RowVector) : Type 0 where
  pub uppers : AtEntries s g (λ p z q. u p z q ≤ most_of Uppers)
  pub lowers : has_lowers h ≡ true → AtEntries s g (λ p z q. l p z q ≤ most_of Lowers)
  pub means : has_means h ≡ true → AtRows s g (λ p z. (least_of Means ≤ r p z) × (r p z ≤ most_of Means))
