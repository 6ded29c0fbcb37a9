-- A file made of numbers in range passes the layout's tests, and a file with a right layout is the one made of its numbers.
use Prim.Native.Nat.{ℕ}
use mathlib.Core.Bool.{true}
use mathlib.Core.List.{List}
use mathlib.Core.Path.{◌≡◌}
use Rattle.words.specs.Words.{Bytes}
use Rattle.ppda.specs.Equations.{Vector, RowVector}
use Rattle.outcome.specs.Tests.{first}
use Rattle.outcome.proofs.Tests.{accepted_exactly}
use Rattle.delivery.specs.declared.shape.Shape.{Shape}
use Rattle.delivery.specs.Records.{is_due, in_range}
use Rattle.delivery.specs.Shapes.{shape_of}
use Rattle.delivery.specs.Numbers.{uppers_of, lowers_of, means_of}
use Rattle.delivery.specs.Made.{made_delivery, NumbersFit}
use Rattle.delivery.proofs.Due.{AtRecords}
use Rattle.delivery.proofs.Made.{right_of_made, made_of_due}
use Rattle.layout.specs.Layout.{layout_tests}
use Rattle.layout.proofs.Says.{says_record, says_layout}
use Rattle.outcome.specs.Outcomes.{Accepted}
use Rattle.std.specs.Prelude.{Some}

pub layout_of_made : (s g : ℕ) (h : Shape) (u l : Vector) (r : RowVector) → NumbersFit s g h u l r
    → first (layout_tests s g h (made_delivery s g h u l r)) ≡ Accepted
layout_of_made s g h u l r fit =
    (accepted_exactly _).1 ((says_layout s g h (made_delivery s g h u l r) (says_record _)).exactly.1 (right_of_made s g h u l r fit))

pub made_of_delivery : (s g : ℕ) (h : Shape) (d : List ℕ) → shape_of s g d ≡ Some h → first (layout_tests s g h d) ≡ Accepted → Bytes d
    → made_delivery s g h (uppers_of s g d) (lowers_of s g d) (means_of s g h d) ≡ d
made_of_delivery s g h d of accepted bytes =
    made_of_due s g h d of
    (λ p z q hp hz hq. (right.0 p z q hp hz hq).0, (λ e p z q hp hz hq. (right.1.0 e p z q hp hz hq).0, λ e p z hp hz. (right.1.1 e p z hp hz).0))
    bytes
  where
    right : AtRecords s g h (λ i k p z q. (is_due d i k p z q ≡ true) × (in_range d i k ≡ true))
    right = (says_layout s g h d (says_record d)).exactly.0 ((accepted_exactly (layout_tests s g h d)).0 accepted)
