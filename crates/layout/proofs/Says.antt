-- What lists of tests say of a file, list by list: that none of them fails is the same as a statement. The tests of a layout say that each
-- record is the one due, with a value in range.
use Prim.Native.Nat.{ℕ}
use mathlib.Core.Bool.{Bool, true, false, true≢false}
use mathlib.Core.List.{List, [], ◌∷◌, ◌++◌}
use mathlib.Core.Logic.Iff
use mathlib.Core.Logic.{◌↔◌}
use mathlib.Core.Path.{◌≡◌, refl, sym}
use borrow.Author.Tests.{not-false}
use Rattle.outcome.specs.Tests.{Test, Passed}
use Rattle.walks.proofs.Exactly.{not_exactly}
use Rattle.outcome.proofs.Tests.{passed_one, passed_append, passed_each}
use Rattle.delivery.specs.declared.shape.Block.{Block}
use Rattle.delivery.specs.declared.shape.Block.TheVariants.{Uppers, Lowers, Means}
use Rattle.delivery.specs.declared.shape.Shape.{Shape}
use Rattle.delivery.specs.Records.{is_due, in_range}
use Rattle.delivery.specs.Shapes.{has_lowers, has_means}
use Rattle.delivery.proofs.Due.{AtRecords}
use Rattle.walks.specs.Order.{AtEntries, AtRows, each_entry, each_row}
use Rattle.layout.specs.Layout.{only_if, record_tests, upper_records, lower_records, mean_records, layout_tests}

-- No test of the list fails exactly where A holds.
pub record Says (ts : List Test) (A : Type 0) : Type 0 where
  pub exactly : Passed ts ↔ A

pub says_append : {A B : Type 0} {xs ys : List Test} → Says xs A → Says ys B → Says (xs ++ ys) (A × B)
says_append {xs = xs} {ys = ys} f g =
    record {
      exactly = (
        λ h. let p = (passed_append xs ys).0 h in (f.exactly.0 p.0, g.exactly.0 p.1),
        λ h. (passed_append xs ys).1 (f.exactly.1 h.0, g.exactly.1 h.1),
      );
    }

pub says_only : {A : Type 0} {ts : List Test} (t : Bool) → Says ts A → Says (only_if t ts) (t ≡ true → A)
says_only true f = record { exactly = (λ h e. f.exactly.0 h, λ h. f.exactly.1 (h refl)) }
says_only false f = record { exactly = (λ h e. absurd (true≢false (sym e)), λ h. tt) }

pub says_entries : {s g : ℕ} {h : ℕ → ℕ → ℕ → List Test} {P : ℕ → ℕ → ℕ → Type 0} → ((p z q : ℕ) → Says (h p z q) (P p z q))
    → Says (each_entry s g h) (AtEntries s g P)
unfolding each_entry
says_entries {s} {g} {h} e =
    record {
      exactly = (
        λ a p z q hp hz hq. (e p z q).exactly.0 ((passed_each s (h p z)).0 ((passed_each g _).0 ((passed_each s _).0 a p hp) z hz) q hq),
        λ a. (passed_each s _).1 (λ p hp.
            (passed_each g _).1 (λ z hz. (passed_each s (h p z)).1 (λ q hq. (e p z q).exactly.1 (a p z q hp hz hq)))),
      );
    }

pub says_rows : {s g : ℕ} {h : ℕ → ℕ → List Test} {P : ℕ → ℕ → Type 0} → ((p z : ℕ) → Says (h p z) (P p z))
    → Says (each_row s g h) (AtRows s g P)
unfolding each_row
says_rows {s} {g} {h} e =
    record {
      exactly = (
        λ a p z hp hz. (e p z).exactly.0 ((passed_each g (h p)).0 ((passed_each s _).0 a p hp) z hz),
        λ a. (passed_each s _).1 (λ p hp. (passed_each g (h p)).1 (λ z hz. (e p z).exactly.1 (a p z hp hz))),
      );
    }

-- One test.
pub says_one : {A : Type 0} {t : Test} → (t.fails ≡ false) ↔ A → Says (t ∷ []) A
says_one {t = t} f = record { exactly = Iff.trans (passed_one t) f }

-- ---- the tests of a layout

pub says_record : (d : List ℕ) (i : ℕ) (k : Block) (p z q : ℕ)
    → Says (record_tests d i k p z q) ((is_due d i k p z q ≡ true) × (in_range d i k ≡ true))
unfolding record_tests
says_record d i k p z q =
    record { exactly = (λ h. (not-false _ h.0, not-false _ h.1.0), λ h. ((not_exactly _).1 h.0, ((not_exactly _).1 h.1, tt))) }

pub says_layout : {P : ℕ → Block → ℕ → ℕ → ℕ → Type 0} (s g : ℕ) (h : Shape) (d : List ℕ)
    → ((i : ℕ) (k : Block) (p z q : ℕ) → Says (record_tests d i k p z q) (P i k p z q)) → Says (layout_tests s g h d) (AtRecords s g h P)
unfolding layout_tests upper_records lower_records mean_records
says_layout s g h d e =
    says_append (says_entries (λ p z q. e _ Uppers p z q))
    (says_append (says_only (has_lowers h) (says_entries (λ p z q. e _ Lowers p z q)))
    (says_only (has_means h) (says_rows (λ p z. e _ Means p z 0))))
