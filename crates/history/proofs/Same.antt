-- Two accepted deliveries for one model are the same (`same_delivery`) exactly where what the register holds of them is, and exactly where
-- their bytes are: kind, p, Z and q are those due there in both, so that the values alone can differ.
use Prim.Native.Nat.{ℕ, ◌+◌, ◌*◌, ◌≤◌, ◌<◌}
use native.Mathlib.Omega.{arith}
use mathlib.Core.Bool.{Bool, true, false, false≢true, ◌&&◌, and-eq-true_iff}
use mathlib.Core.List.{List}
use mathlib.Core.Logic.Iff
use mathlib.Core.Logic.{◌↔◌}
use mathlib.Core.Path.{◌≡◌, refl, sym, ap, subst, ◌∙◌}
use lib.ListN.{get_or}
use Rattle.walks.specs.Sums.{all_to}
use Rattle.walks.specs.Order.{entries_in, rows_in, row_at, entry_at, AtRows, AtEntries}
use Rattle.walks.proofs.Exactly.{eq_exactly, both, same_test}
use Rattle.walks.proofs.Sums.{all_exactly}
use Rattle.walks.proofs.Places.{entry_below}
use Rattle.walks.proofs.Exits.{Ordered, exit_ordered}
use Rattle.words.specs.Words.{Bytes}
use Rattle.model.specs.Format.{most_entries}
use Rattle.model.specs.Records.{states_of, symbols_of}
use Rattle.model.specs.Clauses.{Fits}
use Rattle.model.proofs.Accepted.{sized_fits}
use Rattle.wellformed.proofs.Accepted.{model_accepted, sized_of}
use Rattle.delivery.specs.declared.shape.Block.{Block}
use Rattle.delivery.specs.declared.shape.Shape.{Shape}
use Rattle.delivery.specs.declared.shape.Shape.TheVariants.{U, UL, UR, ULR}
use Rattle.delivery.specs.Format.{record_bytes}
use Rattle.delivery.specs.Records.{value_at}
use Rattle.delivery.specs.Shapes.{has_lowers, has_means, same_shape, means_from, records_in, shape_of}
use Rattle.delivery.specs.Numbers.{uppers_of, lowers_of, means_of}
use Rattle.delivery.specs.Merged.{merged_shape, merged_means, merged}
use Rattle.ppda.specs.Equations.{Vector, RowVector, Same}
use Rattle.delivery.proofs.Shapes.{same_shape_lem, shape_long}
use Rattle.delivery.proofs.Due.{each_record}
use Rattle.delivery.proofs.Told.{SameFields, told_by_records}
use Rattle.verdict.specs.Accepted.{RecordDue, DeliveryFile, RightFiles}
use Rattle.merging.proofs.Accepted.{merged_file}
use Rattle.merging.proofs.Sharper.{uppers_joined, lowers_are, means_are}
use Rattle.verdict.specs.Verdict.{verdict}
use Rattle.verdict.proofs.Accepted.{delivery_accepted}
use Rattle.certificate.proofs.Rest.{at_numbers, at_row_numbers}
use Rattle.held.specs.Held.{padded, listed_by_exit, listed_rows, if_standing, numbers_held}
use Rattle.held.proofs.Listed.{listed_at, listed_cong, rows_at}
use Rattle.filing.specs.Known.{same_to, same_numbers}
use Rattle.filing.proofs.Known.{same_exactly}
use Rattle.register.specs.Filing.{shape_for}
use Rattle.history.specs.Plain.{same_record, same_as, same_delivery}
use Rattle.outcome.specs.Outcomes.{Accepted}
use Rattle.std.specs.Prelude.{Option, Some, None}

-- ---- records

-- What the test of a record says.
record_same : (e d : List ℕ) (i : ℕ) → (same_record e d i ≡ true) ↔ SameFields e d i
record_same e d i =
    both _ _ (eq_exactly _ _) (both _ _ (eq_exactly _ _) (both _ _ (eq_exactly _ _) (both _ _ (eq_exactly _ _) (eq_exactly _ _))))

-- Records that are both the one due differ in their values alone.
due_same : {e d : List ℕ} {i : ℕ} {k : Block} {p z q : ℕ} → RecordDue e i k p z q → RecordDue d i k p z q
    → (same_record e d i ≡ true) ↔ (value_at e i ≡ value_at d i)
due_same {e} {d} {i} a c = (
  λ same. ((record_same e d i).0 same).1.1.1.1,
  λ value. (record_same e d i).1 (a.kind ∙ sym c.kind, (a.state ∙ sym c.state, (a.symbol ∙ sym c.symbol, (a.exit ∙ sym c.exit, value)))),
)

-- ---- blocks

-- A block of n records, number i at the place `at i`, with its numbers in a list: the records are the same where the lists are.
block_same : (e d : List ℕ) (n : ℕ) (at : ℕ → ℕ) (l k : List ℕ)
    → ((i : ℕ) → i < n → get_or l i 0 ≡ value_at e (at i))
    → ((i : ℕ) → i < n → get_or k i 0 ≡ value_at d (at i))
    → ((i : ℕ) → i < n → (same_record e d (at i) ≡ true) ↔ (value_at e (at i) ≡ value_at d (at i)))
    → ((i : ℕ) → i < n → same_record e d (at i) ≡ true) ↔ (same_to n l k ≡ true)
block_same e d n at l k former here due = (
  λ all. (same_exactly n l k).1 (λ i lt. former i lt ∙ (due i lt).0 (all i lt) ∙ sym (here i lt)),
  λ same i lt. (due i lt).1 (sym (former i lt) ∙ (same_exactly n l k).0 same i lt ∙ here i lt),
)

-- A block that may be absent, with zeros in its place.
if_standing_lem : (t : Bool) (n : ℕ) (l k : List ℕ) {A : Type 0} → (t ≡ true → A ↔ (same_to n l k ≡ true))
    → (t ≡ true → A) ↔ (same_to n (if_standing t l) (if_standing t k) ≡ true)
if_standing_lem true n l k f = (λ a. (f refl).0 (a refl), λ same e. (f refl).1 same)
if_standing_lem false n l k f = (λ a. (same_exactly n _ _).1 (λ i lt. refl), λ same e. absurd (false≢true e))

-- Two listed vectors have the same numbers exactly where the vectors are the same, whatever the order of entries.
pub same_listed : {s g : ℕ} {place : ℕ → ℕ → ℕ → ℕ} {by : Vector → ℕ → ℕ} → Ordered s g place by → entries_in s g ≤ most_entries → (u v : Vector)
    → Same s g u v ↔ (same_to (entries_in s g) (padded (by u) (entries_in s g)) (padded (by v) (entries_in s g)) ≡ true)
same_listed {s} {g} {place} {by} o few u v = (
  λ same. (same_exactly (entries_in s g) _ _).1 (λ i lt. ap (λ l. get_or l i 0) (listed_cong o u v few same)),
  λ same p z q hp hz hq.
      sym (listed_at o u p z q hp hz hq few)
      ∙ (same_exactly (entries_in s g) _ _).0 same (place p z q) (o.below p z q hp hz hq)
      ∙ listed_at o v p z q hp hz hq few,
)

-- A block of entries and a block of rows, in lists as the register holds them.
module _ (s g : ℕ) (e d : List ℕ) (at : ℕ → ℕ) where
  entries_same : entries_in s g ≤ most_entries
      → AtEntries s g (λ p z q.
      (same_record e d (at (entry_at s g p z q)) ≡ true) ↔ (value_at e (at (entry_at s g p z q)) ≡ value_at d (at (entry_at s g p z q))))
      → ((i : ℕ) → i < entries_in s g → same_record e d (at i) ≡ true)
      ↔ (same_to (entries_in s g) (listed_by_exit s g (λ p z q. value_at e (at (entry_at s g p z q)))) (listed_by_exit s g (λ p z q. value_at d (at (entry_at s g p z q)))) ≡ true)
  entries_same few due =
      Iff.trans (
        λ all p z q hp hz hq. (due p z q hp hz hq).0 (all (entry_at s g p z q) (entry_below s g p z q hp hz hq)),
        λ same. at_numbers (λ i. same_record e d (at i) ≡ true) (λ p z q hp hz hq. (due p z q hp hz hq).1 (same p z q hp hz hq)),
      )
      (same_listed (exit_ordered s g) few (λ p z q. value_at e (at (entry_at s g p z q))) (λ p z q. value_at d (at (entry_at s g p z q))))

  rows_same : rows_in s g ≤ most_entries
      → AtRows s g (λ p z. (same_record e d (at (row_at g p z)) ≡ true) ↔ (value_at e (at (row_at g p z)) ≡ value_at d (at (row_at g p z))))
      → ((i : ℕ) → i < rows_in s g → same_record e d (at i) ≡ true)
      ↔ (same_to (rows_in s g) (listed_rows s g (λ p z. value_at e (at (row_at g p z)))) (listed_rows s g (λ p z. value_at d (at (row_at g p z)))) ≡ true)
  rows_same few due = block_same e d (rows_in s g) at _ _ (held e) (held d) (at_row_numbers _ due)
    where
      held : (x : List ℕ) (i : ℕ) → i < rows_in s g → get_or (listed_rows s g (λ p z. value_at x (at (row_at g p z)))) i 0 ≡ value_at x (at i)
      held x =
          at_row_numbers (λ i. get_or (listed_rows s g (λ p z. value_at x (at (row_at g p z)))) i 0 ≡ value_at x (at i))
          (λ p z hp hz. rows_at s g (λ p z. value_at x (at (row_at g p z))) p z hp hz few)

-- ---- two deliveries of one shape

module _ (b e d : List ℕ) (h : Shape) (former : DeliveryFile b e h) (is : DeliveryFile b d h) (fits : Fits (states_of b) (symbols_of b)) where
  uppers_same : ((i : ℕ) → i < entries_in (states_of b) (symbols_of b) → same_record e d i ≡ true)
      ↔ (same_to (entries_in (states_of b) (symbols_of b)) (numbers_held b h e).uppers (numbers_held b h d).uppers ≡ true)
  unfolding numbers_held uppers_of
  uppers_same =
      entries_same (states_of b) (symbols_of b) e d (λ i. i) fits.few_entries
      (λ p z q hp hz hq. due_same (former.uppers.due p z q hp hz hq) (is.uppers.due p z q hp hz hq))

  lowers_same : (has_lowers h ≡ true → (i : ℕ) → i < entries_in (states_of b) (symbols_of b) → same_record e d (entries_in (states_of b) (symbols_of b) + i) ≡ true)
      ↔ (same_to (entries_in (states_of b) (symbols_of b)) (numbers_held b h e).lowers (numbers_held b h d).lowers ≡ true)
  unfolding numbers_held lowers_of
  lowers_same =
      if_standing_lem (has_lowers h) _ _ _ (λ has.
      entries_same (states_of b) (symbols_of b) e d (λ i. entries_in (states_of b) (symbols_of b) + i) fits.few_entries
      (λ p z q hp hz hq. due_same ((former.lowers has).due p z q hp hz hq) ((is.lowers has).due p z q hp hz hq)))

  means_same : (has_means h ≡ true → (i : ℕ) → i < rows_in (states_of b) (symbols_of b) → same_record e d (means_from (states_of b) (symbols_of b) h + i) ≡ true)
      ↔ (same_to (rows_in (states_of b) (symbols_of b)) (numbers_held b h e).means (numbers_held b h d).means ≡ true)
  unfolding numbers_held means_of
  means_same =
      if_standing_lem (has_means h) _ _ _ (λ has.
      rows_same (states_of b) (symbols_of b) e d (λ i. means_from (states_of b) (symbols_of b) h + i) (omega (arith, fits.few_rows))
      (λ p z hp hz. due_same ((former.means has).due p z hp hz) ((is.means has).due p z hp hz)))

  numbers_same : ((i : ℕ) → i < records_in (states_of b) (symbols_of b) h → same_record e d i ≡ true)
      ↔ (same_numbers (states_of b) (symbols_of b) (numbers_held b h e) (numbers_held b h d) ≡ true)
  unfolding same_numbers
  numbers_same = (
    λ all.
        let (u, (l, m)) = (each_record (states_of b) (symbols_of b) h (λ i. same_record e d i ≡ true)).0 all in
        (and-eq-true_iff _ _).1 ((and-eq-true_iff _ _).1 (uppers_same.0 u, lowers_same.0 l), means_same.0 m),
    λ same.
        let (two, m) = (and-eq-true_iff _ _).0 same in
        let (u, l) = (and-eq-true_iff _ _).0 two in
        (each_record (states_of b) (symbols_of b) h (λ i. same_record e d i ≡ true)).1 (uppers_same.1 u, (lowers_same.1 l, means_same.1 m)),
  )

-- ---- two deliveries

-- Where the shapes are the same, so are the records exactly where the numbers are.
shapes_same : (b e d : List ℕ) (h k : Shape) → DeliveryFile b e h → DeliveryFile b d k → Fits (states_of b) (symbols_of b)
    → (same_shape h k && all_to (same_record e d) (records_in (states_of b) (symbols_of b) h))
    ≡ (same_shape h k && same_numbers (states_of b) (symbols_of b) (numbers_held b h e) (numbers_held b k d))
shapes_same b e d h k former is fits = go (same_shape h k) refl
  where
    go : (t : Bool) → same_shape h k ≡ t
        → (t && all_to (same_record e d) (records_in (states_of b) (symbols_of b) h))
        ≡ (t && same_numbers (states_of b) (symbols_of b) (numbers_held b h e) (numbers_held b k d))
    go true q =
        let same : h ≡ k = (same_shape_lem h k).0 q in
        same_test _ _ (Iff.trans (all_exactly (same_record e d) _)
        (subst
        (λ x. ((i : ℕ) → i < records_in (states_of b) (symbols_of b) h → same_record e d i ≡ true)
        ↔ (same_numbers (states_of b) (symbols_of b) (numbers_held b h e) (numbers_held b x d) ≡ true))
        same (numbers_same b e d h former (subst (λ x. DeliveryFile b d x) (sym same) is) fits)))
    go false q = refl

pub delivery_same : (b e d : List ℕ) → verdict b e ≡ Accepted → verdict b d ≡ Accepted
    → same_delivery b e d
    ≡ (same_shape (shape_for b e) (shape_for b d)
    && same_numbers (states_of b) (symbols_of b) (numbers_held b (shape_for b e) e) (numbers_held b (shape_for b d) d))
unfolding same_delivery shape_for
delivery_same b e d former is =
    let a = (delivery_accepted b e).0 former in
    let c = (delivery_accepted b d).0 is in
    let fits = sized_fits (sized_of ((model_accepted b).1 a.model) refl refl) in
    rw (a.delivery.shape, c.delivery.shape) (shapes_same b e d a.shaped c.shaped a.delivery c.delivery fits)

-- ---- the same bytes

-- Deliveries that are the same are so byte by byte, and one that has a shape is the same as itself.
bytes_same : (b e d : List ℕ) → Bytes e → Bytes d → same_delivery b e d ≡ true → e ≡ d
unfolding same_delivery
bytes_same b e d bytes bytes' = go _ refl _ refl
  where
    go : (x : Option Shape) → shape_of (states_of b) (symbols_of b) e ≡ x → (y : Option Shape) → shape_of (states_of b) (symbols_of b) d ≡ y
        → same_as (states_of b) (symbols_of b) x y e d ≡ true → e ≡ d
    go (Some h) here (Some k) there same =
        let (shape, records) = (both _ _ (same_shape_lem h k) (all_exactly (same_record e d) _)).0 same in
        told_by_records (records_in (states_of b) (symbols_of b) h) e d bytes bytes' (shape_long _ _ e h here)
        (shape_long _ _ d k there ∙ ap (λ x. record_bytes * records_in (states_of b) (symbols_of b) x) (sym shape))
        (λ i lt. (record_same e d i).0 (records i lt))
    go (Some h) here None there same = absurd (false≢true same)
    go None here y there same = absurd (false≢true same)

pub itself_same : (b d : List ℕ) {h : Shape} → shape_of (states_of b) (symbols_of b) d ≡ Some h → same_delivery b d d ≡ true
unfolding same_delivery
itself_same b d {h} of =
    rw of
    ((both _ _ (same_shape_lem h h) (all_exactly (same_record d d) _)).1 (refl, λ i lt. (record_same d d i).1 (refl, (refl, (refl, (refl, refl))))))

-- For an accepted delivery and any other file, to be the same is to be the same bytes.
pub same_bytes : (b e d : List ℕ) → verdict b e ≡ Accepted → Bytes e → Bytes d → (same_delivery b e d ≡ true) ↔ (e ≡ d)
same_bytes b e d former bytes bytes' = (
  bytes_same b e d bytes bytes',
  λ same. subst (λ x. same_delivery b e x ≡ true) same (itself_same b e ((delivery_accepted b e).0 former).delivery.shape),
)

-- ---- a delivery merged with itself

merged_itself_as : (h : Shape) → merged_shape h h ≡ h
merged_itself_as U = refl
merged_itself_as UL = refl
merged_itself_as UR = refl
merged_itself_as ULR = refl

means_itself : (x : Bool) (r : RowVector) (p z : ℕ) → merged_means x x r r p z ≡ r p z
means_itself true r p z = omega arith
means_itself false r p z = refl

module _ (b d : List ℕ) (one : RightFiles b d) where
  file_itself : DeliveryFile b (merged b d d) one.shaped
  file_itself = rw (merged_itself_as one.shaped) at (merged_file b d d one one)

  uppers_itself : (i : ℕ) → i < entries_in (states_of b) (symbols_of b) → same_record d (merged b d d) i ≡ true
  unfolding uppers_of
  uppers_itself =
      at_numbers (λ i. same_record d (merged b d d) i ≡ true) (λ p z q hp hz hq.
      (due_same (one.delivery.uppers.due p z q hp hz hq) (file_itself.uppers.due p z q hp hz hq)).1
      (let e = uppers_joined b d d one one p z q hp hz hq in omega (arith, e)))

  lowers_itself : has_lowers one.shaped ≡ true → (i : ℕ) → i < entries_in (states_of b) (symbols_of b)
      → same_record d (merged b d d) (entries_in (states_of b) (symbols_of b) + i) ≡ true
  unfolding lowers_of
  lowers_itself has =
      at_numbers (λ i. same_record d (merged b d d) (entries_in (states_of b) (symbols_of b) + i) ≡ true) (λ p z q hp hz hq.
      (due_same ((one.delivery.lowers has).due p z q hp hz hq) ((file_itself.lowers has).due p z q hp hz hq)).1
      (let e = lowers_are b d d one one (ap has_lowers (merged_itself_as one.shaped) ∙ has) p z q hp hz hq in omega (arith, e)))

  means_as_held : has_means one.shaped ≡ true → AtRows (states_of b) (symbols_of b) (λ p z.
      means_of (states_of b) (symbols_of b) one.shaped d p z ≡ means_of (states_of b) (symbols_of b) one.shaped (merged b d d) p z)
  means_as_held has p z hp hz =
      let same = merged_itself_as one.shaped in
      let e = means_are b d d one one (ap has_means same ∙ has) p z hp hz in
      sym ((rw same at e) ∙ means_itself (has_means one.shaped) (means_of (states_of b) (symbols_of b) one.shaped d) p z)

  means_itself_at : has_means one.shaped ≡ true → (i : ℕ) → i < rows_in (states_of b) (symbols_of b)
      → same_record d (merged b d d) (means_from (states_of b) (symbols_of b) one.shaped + i) ≡ true
  unfolding means_of
  means_itself_at has =
      at_row_numbers (λ i. same_record d (merged b d d) (means_from (states_of b) (symbols_of b) one.shaped + i) ≡ true) (λ p z hp hz.
      (due_same ((one.delivery.means has).due p z hp hz) ((file_itself.means has).due p z hp hz)).1 (means_as_held has p z hp hz))

-- Merging a delivery with itself makes the same delivery.
pub merged_itself : (b d : List ℕ) → verdict b d ≡ Accepted → same_delivery b d (merged b d d) ≡ true
unfolding same_delivery
merged_itself b d is =
    let one = (delivery_accepted b d).0 is in
    let h = one.shaped in
    rw (one.delivery.shape, (file_itself b d one).shape)
    ((both _ _ (same_shape_lem h h) (all_exactly (same_record d (merged b d d)) _)).1 (
      refl,
      (each_record (states_of b) (symbols_of b) h (λ i. same_record d (merged b d d) i ≡ true)).1
          (uppers_itself b d one, (lowers_itself b d one, means_itself_at b d one)),
    ))
