-- The merged lists and the margin, as the code finds them.
use Prim.Native.Nat.{ℕ, ◌≤◌, ◌<◌, min}
use native.Mathlib.Omega.{arith}
use mathlib.Core.Bool.{Bool, cond, ◌&&◌}
use mathlib.Core.List.{List}
use mathlib.Core.Logic.{◌⊎◌, inl, inr}
use mathlib.Core.Path.{◌≡◌, ap₂, ◌∙◌}
use lib.ListN.{get_or, replicate, length-replicate}
use Rattle.walks.specs.Order.{entries_in, AtEntries}
use Rattle.walks.proofs.Lists.{get_d_zeros}
use Rattle.walks.proofs.Numbers.{less_or_not}
use Rattle.walks.proofs.Exits.{exit_ordered}
use Rattle.ppda.specs.Units.{most_chance}
use Rattle.ppda.proofs.Vectors.{margin_same}
use Rattle.model.specs.Format.{most_entries}
use Rattle.model.specs.Records.{states_of, symbols_of}
use Rattle.model.specs.Clauses.{Fits, Sized}
use Rattle.model.proofs.Accepted.{sized_model}
use Rattle.delivery.specs.declared.shape.Shape.{Shape}
use Rattle.delivery.specs.Shapes.{has_lowers}
use Rattle.delivery.specs.Numbers.{uppers_of}
use Rattle.verdict.specs.Verdict.{verdict}
use Rattle.verdict.specs.Accepted.{UppersRight}
use Rattle.verdict.proofs.Accepted.{delivery_accepted}
use Rattle.certificate.specs.Margin.{margin_of}
use Rattle.held.specs.declared.Numbers.{Numbers}
use Rattle.held.specs.Held.{listed_by_exit, numbers_held}
use Rattle.held.specs.Places.{entries_by_exit}
use Rattle.held.proofs.Listed.{padded_is, padded_at, padded_past, listed_most}
use Rattle.merging.specs.Numbers.{kept_to, margin_in, numbers_merged}
use Rattle.merging.specs.Clauses.{KeptBy, uppers_merged, lowers_merged, means_merged, ChancesListed, Holds}
use Rattle.merging.proofs.Lists.{block_uppers}
use Rattle.outcome.specs.Outcomes.{Accepted}

-- ---- each list

-- Before the first pair all are 0.
pub kept_none : (answers : ℕ → ℕ → ℕ → Type 0) (l k : List ℕ) → KeptBy answers 0 l k (replicate most_entries 0)
kept_none answers l k =
    record { size = length-replicate {A = ℕ} most_entries 0; kept = λ e lt. absurd (omega arith); none = λ e le. get_d_zeros most_entries e }

-- Where the rule's answers are known, the list is the definition's.
pub kept_is : {rule : ℕ → ℕ → ℕ} {n : ℕ} {l k r : List ℕ} → KeptBy (λ x y v. v ≡ rule x y) n l k r → r ≡ kept_to rule n l k
unfolding kept_to
kept_is by = padded_is by.size by.kept by.none

-- The smaller of the held uppers and the file's are the merged uppers.
pub uppers_found : (s g : ℕ) (former : Numbers) (d : List ℕ) {n : ℕ} {b r : List ℕ} → n ≡ entries_in s g
    → b ≡ listed_by_exit s g (uppers_of s g d) → r ≡ kept_to min n former.uppers b → r ≡ uppers_merged s g former d
uppers_found s g former d e second is = is ∙ ap₂ (λ k l. kept_to min k former.uppers l) e second

-- ---- the margin

-- No merged upper is above that of the accepted delivery, so that all are in range, whatever was held.
module _ {s g : ℕ} (fits : Fits s g) (former : Numbers) (d : List ℕ) (range : AtEntries s g (λ p z q. uppers_of s g d p z q ≤ most_chance)) where
  pub uppers_in_range : ChancesListed (uppers_merged s g former d)
  unfolding kept_to
  uppers_in_range e = go (less_or_not e (entries_in s g))
    where
      second : ℕ → ℕ
      second i = get_or (listed_by_exit s g (uppers_of s g d)) i 0

      go : (e < entries_in s g) ⊎ (entries_in s g ≤ e) → get_or (uppers_merged s g former d) e 0 ≤ most_chance
      go (inl lt) =
          rw (padded_at (λ i. min (get_or former.uppers i 0) (second i)) (entries_in s g) e lt fits.few_entries)
          (omega (arith, listed_most (exit_ordered s g) (uppers_of s g d) most_chance e fits.few_entries range))
      go (inr le) = rw (padded_past (λ i. min (get_or former.uppers i 0) (second i)) (entries_in s g) e le) (omega arith)

-- The uppers of an accepted delivery are in range.
pub accepted_uppers : (b d : List ℕ) {s g : ℕ} → Sized b s g → verdict b d ≡ Accepted → AtEntries s g (λ p z q. uppers_of s g d p z q ≤ most_chance)
unfolding uppers_of
accepted_uppers b d {s} {g} sized accepted =
    let uppers : UppersRight b s g d = rw (sized.states, sized.symbols) ((delivery_accepted b d).0 accepted).delivery.uppers in
    λ p z q hp hz hq. (uppers.due p z q hp hz hq).most

-- The margin of the block that listed uppers are put into is theirs.
pub margin_listed : {b l block : List ℕ} {s g m : ℕ} → Sized b s g → Holds s g l (entries_in s g) block → m ≡ margin_of b block → m ≡ margin_in b l
unfolding margin_of
margin_listed {b} {l} {block} {s} {g} sized holds found =
    found ∙ rw (← sized.states, ← sized.symbols) (margin_same (sized_model sized) (uppers_of s g block) (entries_by_exit s g l) (block_uppers s g holds))

-- ---- all numbers

module _ (b d : List ℕ) {s g : ℕ} (states : s ≡ states_of b) (symbols : g ≡ symbols_of b) (h k : Shape) (former : Numbers) where
  pub numbers_found : {u l r : List ℕ} {t : Bool} {m : ℕ} → u ≡ uppers_merged s g former d → l ≡ lowers_merged s g h former k d
      → r ≡ means_merged s g h former k d → t ≡ (has_lowers h && has_lowers k) → m ≡ cond t (margin_in b u) 0
      → ◌≡◌ {A = Numbers} (record { uppers = u; lowers = l; means = r; margin = m }) (numbers_merged b h former k (numbers_held b k d))
  unfolding numbers_merged numbers_held
  numbers_found uppers lowers means stand margin = rw (margin, stand, uppers, lowers, means, states, symbols)
