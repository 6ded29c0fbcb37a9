-- What an accepted file becomes, as the code finds it.
use Prim.Native.Nat.{ℕ, ◌≤◌}
use native.Mathlib.Omega.{arith}
use mathlib.Core.Bool.{true, cond, and-eq-true_iff}
use mathlib.Core.List.{List}
use mathlib.Core.Path.{◌≡◌}
use lib.Dec.{ltb, leb}
use lib.ListN.{length}
use borrow.Author.Tests.{leb-true}
use Rattle.model.specs.declared.sizes.Sizes.{Sizes}
use Rattle.model.specs.Format.{most_bytes}
use Rattle.model.specs.Records.{states_of, symbols_of}
use Rattle.model.specs.Sizes.{sizes_of}
use Rattle.wellformed.specs.Verdict.{model_verdict}
use Rattle.wellformed.proofs.Accepted.{model_accepted}
use Rattle.delivery.specs.declared.shape.Shape.{Shape}
use Rattle.delivery.specs.Shapes.{has_lowers, has_means, shape_of}
use Rattle.delivery.specs.Numbers.{uppers_of, lowers_of, means_of}
use Rattle.verdict.specs.Marks.{live_mark}
use Rattle.verdict.specs.Verdict.{verdict}
use Rattle.certificate.specs.Margin.{margin_of}
use Rattle.verdict.proofs.Accepted.{delivery_accepted}
use Rattle.held.specs.declared.HeldModel.{HeldModel}
use Rattle.held.specs.declared.Numbers.{Numbers}
use Rattle.held.specs.Held.{filled, listed_by_exit, listed_rows, if_standing, model_held, numbers_held, holds_model, shape_as}
use Rattle.held.specs.Clauses.{Marks}
use Rattle.held.proofs.Listed.{live_listed}
use Rattle.outcome.specs.Outcomes.{Accepted}
use Rattle.std.specs.Prelude.{Some}

-- ---- an accepted model

pub model_fits : (b : List ℕ) → model_verdict b ≡ Accepted → length b ≤ most_bytes
model_fits b accepted = let records = ((model_accepted b).0 accepted).records in omega (arith, records.whole, records.most)

pub model_is : (b : List ℕ) {bytes live : List ℕ} {n : Sizes} → bytes ≡ filled most_bytes b → n ≡ sizes_of b
    → Marks (states_of b) (symbols_of b) (live_mark b) live
    → ◌≡◌ {A = HeldModel} (record { bytes = bytes; length = length b; states = n.states; symbols = n.symbols; live = live }) (model_held b)
unfolding model_held
model_is b e same marks = rw (e, same, live_listed _ _ _ marks)

-- A held model's length is that of a file that can be accepted.
pub held_fits : (n : ℕ) → holds_model n ≡ true → n ≤ most_bytes
unfolding holds_model
held_fits n holds = leb-true n most_bytes ((and-eq-true_iff (ltb 0 n) (leb n most_bytes)).0 holds).1

-- ---- an accepted delivery

-- An accepted delivery has its shape.
pub shape_by_verdict : (b d : List ℕ) {n : Sizes} {h : Shape} → n ≡ sizes_of b → verdict b d ≡ Accepted
    → h ≡ shape_as (shape_of n.states n.symbols d) → shape_of n.states n.symbols d ≡ Some h
shape_by_verdict b d {n} same accepted is =
    let filed = (delivery_accepted b d).0 accepted in
    let shape : shape_of n.states n.symbols d ≡ Some filed.shaped = rw same filed.delivery.shape in
    rw (is, shape)

module _ (b d : List ℕ) {s g : ℕ} (states : s ≡ states_of b) (symbols : g ≡ symbols_of b) where
  pub numbers_are : (h : Shape) {u l r : List ℕ} {m : ℕ} → u ≡ listed_by_exit s g (uppers_of s g d)
      → l ≡ if_standing (has_lowers h) (listed_by_exit s g (lowers_of s g d))
      → r ≡ if_standing (has_means h) (listed_rows s g (means_of s g h d))
      → m ≡ cond (has_lowers h) (margin_of b d) 0
      → ◌≡◌ {A = Numbers} (record { uppers = u; lowers = l; means = r; margin = m }) (numbers_held b h d)
  unfolding numbers_held
  numbers_are h uppers lowers means margin = rw (← states, ← symbols, uppers, lowers, means, margin)
