-- Where rows start: the list's laws, and that a row's records are the range from its start to the next row's.
use Prim.Native.Nat.{ℕ, ◌+◌, ◌*◌, ◌≤◌, ◌<◌}
use native.Mathlib.Nat.{le_refl, le_trans}
use native.Mathlib.Omega.{arith}
use mathlib.Core.Bool.{Bool, true, false}
use mathlib.Core.List.{List}
use mathlib.Core.Path.{◌≡◌, refl}
use lib.Dec.{ltb}
use lib.ListN.{length, get_or, set}
use lib.Seq.{get_or-set_same, get_or-set_other}
use borrow.Author.Tests.{ltb-true, ltb-false}
use borrow.Author.Count.{below_more}
use Rattle.model.specs.Format.{most_records}
use Rattle.model.specs.Records.{records_of}
use Rattle.model.specs.Rules.{row_of}
use Rattle.model.specs.Clauses.{Sized, StartsAt}
use Rattle.model.proofs.Rows.{rows_ascend}
use Rattle.rows.specs.Clauses.{Starts}

-- One number more of a list is as it should be.
pub set_more : (P : ℕ → ℕ → Type 0) {k a : ℕ} (l : List ℕ) → k < length l → ((e : ℕ) → e < k → P e (get_or l e 0)) → P k a
    → (e : ℕ) → e < k + 1 → P e (get_or (set l k a) e 0)
set_more P {k} {a} l h before here =
    below_more (λ e. P e (get_or (set l k a) e 0)) k
    (λ e m. rw (get_or-set_other l k e a 0 (λ q. omega arith)) (before e m))
    (rw (get_or-set_same l k a 0 h) here)

-- ---- where a row starts

-- The records ascend, so the first record of row k or later is where row k starts.
pub starts_here : {b : List ℕ} {s g k a : ℕ} → Sized b s g → a < records_of b → ((j : ℕ) → j < a → row_of b g j < k) → k ≤ row_of b g a
    → StartsAt b g k a
starts_here {b} {s} {g} {k} {a} sized l before here =
    record {
      within = omega arith;
      before = before;
      after = λ i h m. le_trans here (rw sized.symbols (rows_ascend b sized.file.ascending a i h m));
    }

-- Where every record is of an earlier row, row k starts at the end.
pub starts_at_end : {b : List ℕ} {g k a : ℕ} → records_of b ≤ a → a ≤ records_of b → ((j : ℕ) → j < a → row_of b g j < k) → StartsAt b g k a
starts_at_end all within before = record { within = within; before = before; after = λ i h m. absurd (omega arith) }

-- The list says where one row more starts.
pub starts_more : {b : List ℕ} {g k a : ℕ} (l : List ℕ) → k < length l → ((e : ℕ) → e < k → StartsAt b g e (get_or l e 0))
    → StartsAt b g k a → (e : ℕ) → e < k + 1 → StartsAt b g e (get_or (set l k a) e 0)
starts_more {b} {g} l h before here = set_more (StartsAt b g) l h before here

-- A row starts at one of at most 1,024 records, or after the last.
pub start_most : {b : List ℕ} {s g : ℕ} (l : List ℕ) → Sized b s g → Starts b g (s * g) l → (k : ℕ) → k ≤ s * g → get_or l k 0 ≤ most_records
start_most l sized starts k h = le_trans (starts k h).within sized.file.records.most

-- A row ends no earlier than it starts.
pub starts_ascend : {b : List ℕ} {g k a e : ℕ} → StartsAt b g k a → StartsAt b g (k + 1) e → a ≤ e
starts_ascend {b} {g} {k} {a} {e} start end = go (ltb e a) refl
  where
    go : (t : Bool) → ltb e a ≡ t → a ≤ e
    go true q =
        let l : e < a = ltb-true e a q in
        absurd (omega (arith, start.before e l, end.after e (le_refl e) (omega (arith, start.within))))
    go false q = ltb-false e a q
