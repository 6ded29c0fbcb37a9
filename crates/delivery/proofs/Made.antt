-- A file made of numbers has its shape and the records due, and gives the numbers back, and a file with the records due is the one made of its
-- numbers: every record is eight bytes, so that record e of a block lies 8 × e bytes behind the block's start.
use Prim.Native.Nat.{ℕ, zero, suc, ◌+◌, ◌*◌, ◌≤◌, ◌<◌, ◌^◌}
use native.Mathlib.Nat.{add-zero, zero-add, add_assoc, zero-mul, eq-or-lt_of_le}
use native.Mathlib.Omega.{arith}
use mathlib.Core.Bool.{Bool, true, false, cond}
use mathlib.Core.List.{List, [], ◌∷◌, ◌++◌, append_assoc}
use mathlib.Core.Logic.{◌⊎◌, inl, inr}
use mathlib.Core.Path.{◌≡◌, refl, sym, ap, ap₂, subst, ◌∙◌}
use lib.ListN.{length, get_or, take, drop, length-append, get_or-append}
use lib.Seq.{get_or-append-add, take_all, take-add}
use Rattle.words.specs.Words.{Bytes}
use Rattle.words.proofs.Words.{bytes_none, bytes_cons, bytes_append, four_are_bytes, part_next, part_more, word_by, bytes_make, made_word}
use Rattle.ppda.specs.Equations.{Vector, RowVector}
use Rattle.walks.specs.Lists.{each}
use Rattle.walks.proofs.Places.{row_below, entry_below}
use Rattle.delivery.specs.declared.shape.Block.{Block}
use Rattle.delivery.specs.declared.shape.Block.TheVariants.{Uppers, Lowers, Means}
use Rattle.delivery.specs.declared.shape.Shape.{Shape}
use Rattle.delivery.specs.declared.shape.Shape.TheVariants.{U, UL, UR, ULR}
use Rattle.delivery.specs.Format.{record_bytes, value_byte}
use Rattle.delivery.specs.Records.{byte_of, kind_at, state_at, symbol_at, exit_at, value_at, kind_of, least_of, most_of, is_due, in_range}
use Rattle.delivery.specs.Shapes.{has_lowers, has_means, means_from, records_in, shape_of}
use Rattle.walks.specs.Order.{entries_in, rows_in, entry_at, row_at, each_row, each_entry}
use Rattle.delivery.specs.Numbers.{uppers_of, lowers_of, means_of}
use Rattle.delivery.proofs.Shapes.{one_state_lem, shape_long, shape_found, one_state_lowers, one_state_means, one_state_alone, one_state_both, uppers_fit, lowers_fit, means_fit}
use Rattle.delivery.proofs.Due.{AtRecords, due_exactly, range_exactly}
use Rattle.delivery.specs.Made.{delivery_record, entry_records, row_records, made_delivery, NumbersFit}
use Rattle.walks.proofs.Lists.{length_each, get_d_each}
use Rattle.std.specs.Prelude.{Some}

-- ---- lists of one length, one after the other

module _ (w : ℕ) (h : ℕ → List ℕ) where
  -- Parts of a file that follow each other are one part of it.
  pub parts_joined : (b : List ℕ) (from n : ℕ) → ((i : ℕ) → i < n → h i ≡ take w (drop (from + i * w) b))
      → each n h ≡ take (n * w) (drop from b)
  unfolding each
  parts_joined b from zero part = ap (λ k. take k (drop from b)) (sym (zero-mul w))
  parts_joined b from (suc n) part =
      let e : n * w + w ≡ suc n * w = omega arith in
      ap₂ ◌++◌ (parts_joined b from n (λ i l. part i (omega arith))) (part n (omega arith))
      ∙ sym (part_more b from (n * w) w) ∙ ap (λ k. take k (drop from b)) e

bytes_each : (h : ℕ → List ℕ) (n : ℕ) → ((i : ℕ) → i < n → Bytes (h i)) → Bytes (each n h)
unfolding each
bytes_each h zero bytes = bytes_none
bytes_each h (suc n) bytes = bytes_append (each n h) (bytes_each h n (λ i l. bytes i (omega arith))) (bytes n (omega arith))

-- ---- where records stand

-- Record i of the file has the bytes of this record.
record Stands (d : List ℕ) (i : ℕ) (k : Block) (p z q v : ℕ) : Type 0 where
  same : (j : ℕ) → j < record_bytes → get_or d (record_bytes * i + j) 0 ≡ get_or (delivery_record (kind_of k) p z q v) j 0

-- In front of other bytes, and behind n records.
stands_left : (x y : List ℕ) {i : ℕ} {k : Block} {p z q v : ℕ} → record_bytes * i + record_bytes ≤ length x → Stands x i k p z q v
    → Stands (x ++ y) i k p z q v
stands_left x y {i} h st = record { same = λ j l. get_or-append x y 0 (record_bytes * i + j) (omega arith) ∙ st.same j l }

stands_right : (x y : List ℕ) (n : ℕ) {i : ℕ} {k : Block} {p z q v : ℕ} → length x ≡ record_bytes * n → Stands y i k p z q v
    → Stands (x ++ y) (n + i) k p z q v
stands_right x y n {i} h st =
    record { same = λ j l. ap (λ k. get_or (x ++ y) k 0) (place j) ∙ get_or-append-add x y (record_bytes * i + j) 0 ∙ st.same j l }
  where
    place : (j : ℕ) → record_bytes * (n + i) + j ≡ length x + (record_bytes * i + j)
    place j = omega arith

-- The block of a vector.
module _ (s g : ℕ) (k : Block) (v : Vector) where
  entries_long : length (entry_records s g k v) ≡ record_bytes * entries_in s g
  unfolding entry_records each_entry
  entries_long =
      length_each (g * (s * record_bytes)) _ s (λ p hp. length_each (s * record_bytes) _ g (λ z hz. length_each 8 _ s (λ q hq. refl)))
      ∙ omega arith

  entry_stands : (p z q : ℕ) → p < s → z < g → q < s → Stands (entry_records s g k v) (entry_at s g p z q) k p z q (v p z q)
  unfolding entry_records each_entry
  entry_stands p z q hp hz hq = record { same = same }
    where
      same : (j : ℕ) → j < record_bytes
          → get_or (entry_records s g k v) (record_bytes * entry_at s g p z q + j) 0 ≡ get_or (delivery_record (kind_of k) p z q (v p z q)) j 0
      same j l =
          let a : q * record_bytes + j < s * record_bytes = row_below s 8 q j hq l in
          let b : z * (s * record_bytes) + (q * record_bytes + j) < g * (s * record_bytes) = row_below g (s * record_bytes) z (q * record_bytes + j) hz a in
          let e : record_bytes * entry_at s g p z q + j ≡ p * (g * (s * record_bytes)) + (z * (s * record_bytes) + (q * record_bytes + j)) = omega arith in
          ap (λ i. get_or (entry_records s g k v) i 0) e
          ∙ get_d_each (g * (s * record_bytes)) _ s (λ p hp. length_each (s * record_bytes) _ g (λ z hz. length_each 8 _ s (λ q hq. refl))) p _ hp b
          ∙ get_d_each (s * record_bytes) _ g (λ z hz. length_each 8 _ s (λ q hq. refl)) z _ hz a
          ∙ get_d_each 8 _ s (λ q hq. refl) q j hq l

-- The block of mean steps.
module _ (s g : ℕ) (r : RowVector) where
  means_long : length (row_records s g r) ≡ record_bytes * rows_in s g
  unfolding row_records each_row
  means_long = length_each (g * record_bytes) _ s (λ p hp. length_each 8 _ g (λ z hz. refl)) ∙ omega arith

  row_stands : (p z : ℕ) → p < s → z < g → Stands (row_records s g r) (row_at g p z) Means p z 0 (r p z)
  unfolding row_records each_row
  row_stands p z hp hz = record { same = same }
    where
      same : (j : ℕ) → j < record_bytes → get_or (row_records s g r) (record_bytes * row_at g p z + j) 0 ≡ get_or (delivery_record (kind_of Means) p z 0 (r p z)) j 0
      same j l =
          let a : z * record_bytes + j < g * record_bytes = row_below g 8 z j hz l in
          let e : record_bytes * row_at g p z + j ≡ p * (g * record_bytes) + (z * record_bytes + j) = omega arith in
          ap (λ i. get_or (row_records s g r) i 0) e
          ∙ get_d_each (g * record_bytes) _ s (λ p hp. length_each 8 _ g (λ z hz. refl)) p _ hp a
          ∙ get_d_each 8 _ g (λ z hz. refl) z j hz l

-- How many bytes the lowers and the mean steps of a shape have.
abbrev lower_bytes : ℕ → ℕ → Shape → ℕ
lower_bytes s g h = cond (has_lowers h) (record_bytes * entries_in s g) 0

abbrev mean_bytes : ℕ → ℕ → Shape → ℕ
mean_bytes s g h = cond (has_means h) (record_bytes * rows_in s g) 0

before_means : (s g : ℕ) (h : Shape) → record_bytes * means_from s g h ≡ record_bytes * entries_in s g + lower_bytes s g h
unfolding means_from
before_means s g U = omega arith
before_means s g UL = omega arith
before_means s g UR = omega arith
before_means s g ULR = omega arith

whole_file : (s g : ℕ) (h : Shape) → record_bytes * records_in s g h ≡ record_bytes * entries_in s g + lower_bytes s g h + mean_bytes s g h
unfolding records_in means_from
whole_file s g U = omega arith
whole_file s g UL = omega arith
whole_file s g UR = omega arith
whole_file s g ULR = omega arith

long_if : (t : Bool) (x : List ℕ) (n : ℕ) → length x ≡ n → length (cond t x []) ≡ cond t n 0
long_if true x n e = e
long_if false x n e = refl

-- The whole file: its length, and the records of each block.
module _ (s g : ℕ) (h : Shape) (u l : Vector) (r : RowVector) where
  front : List ℕ
  front = entry_records s g Uppers u ++ cond (has_lowers h) (entry_records s g Lowers l) []

  made_split : made_delivery s g h u l r ≡ front ++ cond (has_means h) (row_records s g r) []
  unfolding made_delivery front
  made_split = sym (append_assoc (entry_records s g Uppers u) (cond (has_lowers h) (entry_records s g Lowers l) []) _)

  front_long : length front ≡ record_bytes * means_from s g h
  unfolding front
  front_long =
      length-append (entry_records s g Uppers u) _
      ∙ ap₂ ◌+◌ (entries_long s g Uppers u) (long_if (has_lowers h) _ (record_bytes * entries_in s g) (entries_long s g Lowers l))
      ∙ sym (before_means s g h)

  pub made_long : length (made_delivery s g h u l r) ≡ record_bytes * records_in s g h
  made_long =
      ap length made_split ∙ length-append front _
      ∙ ap₂ ◌+◌ (front_long ∙ before_means s g h) (long_if (has_means h) _ (record_bytes * rows_in s g) (means_long s g r))
      ∙ sym (whole_file s g h)

  upper_stands : (p z q : ℕ) → p < s → z < g → q < s
      → Stands (made_delivery s g h u l r) (entry_at s g p z q) Uppers p z q (u p z q)
  unfolding made_delivery
  upper_stands p z q hp hz hq =
      stands_left (entry_records s g Uppers u) _ (omega (arith, entries_long s g Uppers u, entry_below s g p z q hp hz hq))
      (entry_stands s g Uppers u p z q hp hz hq)

  lower_stands : has_lowers h ≡ true → (p z q : ℕ) → p < s → z < g → q < s
      → Stands (made_delivery s g h u l r) (entries_in s g + entry_at s g p z q) Lowers p z q (l p z q)
  unfolding made_delivery
  lower_stands e p z q hp hz hq =
      rw e (
      stands_right (entry_records s g Uppers u) _ (entries_in s g) (entries_long s g Uppers u)
      (stands_left (entry_records s g Lowers l) _ (omega (arith, entries_long s g Lowers l, entry_below s g p z q hp hz hq))
      (entry_stands s g Lowers l p z q hp hz hq)))

  mean_stands : has_means h ≡ true → (p z : ℕ) → p < s → z < g
      → Stands (made_delivery s g h u l r) (means_from s g h + row_at g p z) Means p z 0 (r p z)
  mean_stands e p z hp hz =
      rw (made_split, e) (stands_right front (row_records s g r) (means_from s g h) front_long (row_stands s g r p z hp hz))

-- ---- what a record says where it stands

module _ {d : List ℕ} {i : ℕ} {k : Block} {p z q v : ℕ} (st : Stands d i k p z q v) where
  kind_said : kind_at d i ≡ kind_of k
  unfolding byte_of
  kind_said = st.same 0 (omega arith)

  due_said : is_due d i k p z q ≡ true
  unfolding byte_of
  due_said =
      (due_exactly d i k p z q).1 (kind_said, (st.same 1 (omega arith), (st.same 2 (omega arith), st.same 3 (omega arith))))

  value_said : v < 2 ^ 32 → value_at d i ≡ v
  unfolding value_at
  value_said h =
      word_by d (record_bytes * i + value_byte) (st.same 4 (omega arith)) (byte 1 (omega arith)) (byte 2 (omega arith)) (byte 3 (omega arith))
      ∙ bytes_make v h
    where
      byte : (j : ℕ) → value_byte + j < record_bytes → get_or d (record_bytes * i + value_byte + j) 0 ≡ get_or (delivery_record (kind_of k) p z q v) (4 + j) 0
      byte j l = ap (λ n. get_or d n 0) (add_assoc (record_bytes * i) 4 j) ∙ st.same (4 + j) l

  range_said : v < 2 ^ 32 → least_of k ≤ v → v ≤ most_of k → in_range d i k ≡ true
  range_said h least most = let e = value_said h in (range_exactly d i k).1 (rw e least, rw e most)

-- ---- reading what was made

module _ (s g : ℕ) (h : Shape) (u l : Vector) (r : RowVector) where
  -- Every record is the one due.
  pub due_of_made : AtRecords s g h (λ i k p z q. is_due (made_delivery s g h u l r) i k p z q ≡ true)
  due_of_made = (
    λ p z q hp hz hq. due_said (upper_stands s g h u l r p z q hp hz hq),
    (
      λ e p z q hp hz hq. due_said (lower_stands s g h u l r e p z q hp hz hq),
      λ e p z hp hz. due_said (mean_stands s g h u l r e p z hp hz),
    ),
  )

  pub uppers_of_made : (p z q : ℕ) → p < s → z < g → q < s → u p z q < 2 ^ 32 → uppers_of s g (made_delivery s g h u l r) p z q ≡ u p z q
  unfolding uppers_of
  uppers_of_made p z q hp hz hq = value_said (upper_stands s g h u l r p z q hp hz hq)

  pub lowers_of_made : has_lowers h ≡ true → (p z q : ℕ) → p < s → z < g → q < s → l p z q < 2 ^ 32
      → lowers_of s g (made_delivery s g h u l r) p z q ≡ l p z q
  unfolding lowers_of
  lowers_of_made e p z q hp hz hq = value_said (lower_stands s g h u l r e p z q hp hz hq)

  pub means_of_made : has_means h ≡ true → (p z : ℕ) → p < s → z < g → r p z < 2 ^ 32 → means_of s g h (made_delivery s g h u l r) p z ≡ r p z
  unfolding means_of
  means_of_made e p z hp hz = value_said (mean_stands s g h u l r e p z hp hz)

  -- With numbers in range every record is the one due and in range.
  pub right_of_made : NumbersFit s g h u l r
      → AtRecords s g h (λ i k p z q.
      (is_due (made_delivery s g h u l r) i k p z q ≡ true) × (in_range (made_delivery s g h u l r) i k ≡ true))
  right_of_made fit = (
    λ p z q hp hz hq. right (upper_stands s g h u l r p z q hp hz hq) (omega arith) (fit.uppers p z q hp hz hq),
    (
      λ e p z q hp hz hq. right (lower_stands s g h u l r e p z q hp hz hq) (omega arith) (fit.lowers e p z q hp hz hq),
      λ e p z hp hz. right (mean_stands s g h u l r e p z hp hz) (fit.means e p z hp hz).0 (fit.means e p z hp hz).1,
    ),
  )
    where
      small : (k : Block) → most_of k < 2 ^ 32
      small Uppers = omega arith
      small Lowers = omega arith
      small Means = omega arith

      right : {d : List ℕ} {i : ℕ} {k : Block} {p z q v : ℕ} → Stands d i k p z q v → least_of k ≤ v → v ≤ most_of k
          → (is_due d i k p z q ≡ true) × (in_range d i k ≡ true)
      right {k = k} st least most = (due_said st, range_said st (omega (arith, small k)) least most)

-- With one state, UL and UR are equally long, and the kind of record V tells them apart.
one_state_made : (g : ℕ) (h : Shape) (u l : Vector) (r : RowVector) → 0 < g → shape_of 1 g (made_delivery 1 g h u l r) ≡ Some h
unfolding means_from
one_state_made g U u l r some = one_state_alone g _ some (made_long 1 g U u l r)
one_state_made g UL u l r some =
    let e : entries_in 1 g + entry_at 1 g 0 0 0 ≡ entries_in 1 g = omega arith in
    (one_state_lowers g (made_delivery 1 g UL u l r) some (made_long 1 g UL u l r)).1
    (rw e at (kind_said (lower_stands 1 g UL u l r refl 0 0 0 (omega arith) some (omega arith))))
one_state_made g UR u l r some =
    let e : means_from 1 g UR + row_at g 0 0 ≡ entries_in 1 g = omega arith in
    let k : kind_at (made_delivery 1 g UR u l r) (entries_in 1 g) ≡ kind_of Means =
    rw e at (kind_said (mean_stands 1 g UR u l r refl 0 0 (omega arith) some)) in
    (one_state_means g (made_delivery 1 g UR u l r) some (made_long 1 g UR u l r ∙ ap (λ n. record_bytes * n) (sym (one_state_lem 1 g refl)))).1
    (λ q. omega arith)
one_state_made g ULR u l r some = one_state_both g _ some (made_long 1 g ULR u l r)

pub shape_of_made : (s g : ℕ) (h : Shape) (u l : Vector) (r : RowVector) → 0 < s → 0 < g → shape_of s g (made_delivery s g h u l r) ≡ Some h
shape_of_made s g h u l r hs hg = go (eq-or-lt_of_le hs)
  where
    go : (1 ≡ s) ⊎ (1 < s) → shape_of s g (made_delivery s g h u l r) ≡ Some h
    go (inl e) = subst (λ n. shape_of n g (made_delivery n g h u l r) ≡ Some h) e (one_state_made g h u l r hg)
    go (inr more) = shape_found s g (made_delivery s g h u l r) h more hg (made_long s g h u l r)

-- The file is made of bytes.
record_bytes_lem : (k : Block) (p z q v : ℕ) → p < 256 → z < 256 → q < 256 → Bytes (delivery_record (kind_of k) p z q v)
record_bytes_lem k p z q v hp hz hq = bytes_cons (kind k) (bytes_cons hp (bytes_cons hz (bytes_cons hq (four_are_bytes v))))
  where
    kind : (k : Block) → kind_of k < 256
    kind Uppers = omega arith
    kind Lowers = omega arith
    kind Means = omega arith

bytes_if : (t : Bool) {x : List ℕ} → Bytes x → Bytes (cond t x [])
bytes_if true bytes = bytes
bytes_if false bytes = bytes_none

pub bytes_of_made : (s g : ℕ) (h : Shape) (u l : Vector) (r : RowVector) → s ≤ 256 → g ≤ 256 → Bytes (made_delivery s g h u l r)
unfolding made_delivery entry_records each_entry row_records each_row
bytes_of_made s g h u l r hs hg =
    bytes_append (entry_records s g Uppers u) (block Uppers u)
    (bytes_append (cond (has_lowers h) (entry_records s g Lowers l) []) (bytes_if (has_lowers h) (block Lowers l)) (bytes_if (has_means h) rows))
  where
    block : (k : Block) (v : Vector) → Bytes (entry_records s g k v)
    block k v =
        bytes_each _ s (λ p hp. bytes_each _ g (λ z hz. bytes_each _ s (λ q hq.
        record_bytes_lem k p z q (v p z q) (omega arith) (omega arith) (omega arith))))

    rows : Bytes (row_records s g r)
    rows =
        bytes_each _ s (λ p hp. bytes_each _ g (λ z hz. record_bytes_lem Means p z 0 (r p z) (omega arith) (omega arith) (omega arith)))

-- ---- making what was read

module _ (d : List ℕ) (bytes : Bytes d) where
  -- A record, made again of its fields.
  pub record_again_lem : (i : ℕ) → record_bytes * i + record_bytes ≤ length d
      → delivery_record (kind_at d i) (state_at d i) (symbol_at d i) (exit_at d i) (value_at d i) ≡ take record_bytes (drop (record_bytes * i) d)
  unfolding byte_of value_at
  record_again_lem i room =
      sym (
      ap (λ j. take record_bytes (drop j d)) (sym (add-zero (record_bytes * i)))
      ∙ rw (
        step 0 7 (omega arith),
        step 1 6 (omega arith),
        step 2 5 (omega arith),
        step 3 4 (omega arith),
        made_word d (record_bytes * i + value_byte) bytes (omega arith),
      )
      )
    where
      step : (j n : ℕ) → j < record_bytes → take (suc n) (drop (record_bytes * i + j) d) ≡ get_or d (record_bytes * i + j) 0 ∷ take n (drop (record_bytes * i + suc j) d)
      step j n l = part_next d (record_bytes * i) j n (omega arith)

  -- A record that is the one due, made again.
  record_back : (i : ℕ) (k : Block) (p z q : ℕ) → record_bytes * i + record_bytes ≤ length d → is_due d i k p z q ≡ true
      → delivery_record (kind_of k) p z q (value_at d i) ≡ take record_bytes (drop (record_bytes * i) d)
  record_back i k p z q room e =
      let (kind, (state, (symbol, exit))) = (due_exactly d i k p z q).0 e in rw (kind, state, symbol, exit) at (record_again_lem i room)

  -- A block of entries from record `from` on, made again.
  block_back : (s g : ℕ) (k : Block) (v : Vector) (from : ℕ) → record_bytes * (from + entries_in s g) ≤ length d
      → ((p z q : ℕ) → p < s → z < g → q < s
      → (is_due d (from + entry_at s g p z q) k p z q ≡ true) × (v p z q ≡ value_at d (from + entry_at s g p z q)))
      → entry_records s g k v ≡ take (record_bytes * entries_in s g) (drop (record_bytes * from) d)
  unfolding entry_records each_entry
  block_back s g k v from room due =
      parts_joined (g * (s * record_bytes)) _ d (record_bytes * from) s (λ p hp.
      parts_joined (s * record_bytes) _ d _ g (λ z hz.
      parts_joined record_bytes _ d _ s (λ q hq. entry p z q hp hz hq)))
      ∙ ap (λ n. take n (drop (record_bytes * from) d)) size
    where
      size : s * (g * (s * record_bytes)) ≡ record_bytes * entries_in s g
      size = omega arith

      entry : (p z q : ℕ) → p < s → z < g → q < s
          → delivery_record (kind_of k) p z q (v p z q) ≡ take record_bytes (drop (record_bytes * from + p * (g * (s * record_bytes)) + z * (s * record_bytes) + q * record_bytes) d)
      entry p z q hp hz hq =
          let (is, value) = due p z q hp hz hq in
          let place : record_bytes * (from + entry_at s g p z q) ≡ record_bytes * from + p * (g * (s * record_bytes)) + z * (s * record_bytes) + q * record_bytes = omega arith in
          ap (delivery_record (kind_of k) p z q) value
          ∙ record_back (from + entry_at s g p z q) k p z q (omega (arith, entry_below s g p z q hp hz hq)) is
          ∙ ap (λ n. take record_bytes (drop n d)) place

  -- The mean steps from record `from` on, made again.
  rows_back : (s g : ℕ) (r : RowVector) (from : ℕ) → record_bytes * (from + rows_in s g) ≤ length d
      → ((p z : ℕ) → p < s → z < g → (is_due d (from + row_at g p z) Means p z 0 ≡ true) × (r p z ≡ value_at d (from + row_at g p z)))
      → row_records s g r ≡ take (record_bytes * rows_in s g) (drop (record_bytes * from) d)
  unfolding row_records each_row
  rows_back s g r from room due =
      parts_joined (g * record_bytes) _ d (record_bytes * from) s (λ p hp. parts_joined record_bytes _ d _ g (λ z hz. row p z hp hz))
      ∙ ap (λ n. take n (drop (record_bytes * from) d)) size
    where
      size : s * (g * record_bytes) ≡ record_bytes * rows_in s g
      size = omega arith

      row : (p z : ℕ) → p < s → z < g → delivery_record (kind_of Means) p z 0 (r p z) ≡ take record_bytes (drop (record_bytes * from + p * (g * record_bytes) + z * record_bytes) d)
      row p z hp hz =
          let (is, value) = due p z hp hz in
          let place : record_bytes * (from + row_at g p z) ≡ record_bytes * from + p * (g * record_bytes) + z * record_bytes = omega arith in
          ap (delivery_record (kind_of Means) p z 0) value
          ∙ record_back (from + row_at g p z) Means p z 0 (omega (arith, row_below s g p z hp hz)) is
          ∙ ap (λ n. take record_bytes (drop n d)) place

-- A list by three parts that follow each other.
three_parts : (d : List ℕ) (a b c : ℕ) → length d ≡ a + b + c → take a d ++ (take b (drop a d) ++ take c (drop (a + b) d)) ≡ d
three_parts d a b c e =
    ap (λ l. take a d ++ l) (sym (part_more d a b c)) ∙ sym (take-add a (b + c) d) ∙ take_all (a + (b + c)) d (omega arith)

-- A block that a shape does not have is an empty part.
part_if : (t : Bool) (d x : List ℕ) (at n : ℕ) → (t ≡ true → x ≡ take n (drop at d)) → cond t x [] ≡ take (cond t n 0) (drop at d)
part_if true d x at n part = part refl
part_if false d x at n part = refl

-- A file with the records due is the one made of its numbers.
pub made_of_due : (s g : ℕ) (h : Shape) (d : List ℕ) → shape_of s g d ≡ Some h → AtRecords s g h (λ i k p z q. is_due d i k p z q ≡ true) → Bytes d
    → made_delivery s g h (uppers_of s g d) (lowers_of s g d) (means_of s g h d) ≡ d
unfolding made_delivery uppers_of lowers_of means_of
made_of_due s g h d of due bytes =
    ap₂ ◌++◌ uppers (ap₂ ◌++◌ lowers means)
    ∙ three_parts d (record_bytes * entries_in s g) (lower_bytes s g h) (mean_bytes s g h) (shape_long s g d h of ∙ whole_file s g h)
  where
    uppers : entry_records s g Uppers (uppers_of s g d) ≡ take (record_bytes * entries_in s g) d
    uppers =
        block_back d bytes s g Uppers (uppers_of s g d) 0 (rw zero-add (uppers_fit s g d h of))
        (λ p z q hp hz hq. rw zero-add (due.0 p z q hp hz hq, refl))

    lowers : cond (has_lowers h) (entry_records s g Lowers (lowers_of s g d)) [] ≡ take (lower_bytes s g h) (drop (record_bytes * entries_in s g) d)
    lowers =
        part_if (has_lowers h) d _ (record_bytes * entries_in s g) (record_bytes * entries_in s g) (λ e.
        block_back d bytes s g Lowers (lowers_of s g d) (entries_in s g) (lowers_fit s g d h of e)
        (λ p z q hp hz hq. (due.1.0 e p z q hp hz hq, refl)))

    means : cond (has_means h) (row_records s g (means_of s g h d)) [] ≡ take (mean_bytes s g h) (drop (record_bytes * entries_in s g + lower_bytes s g h) d)
    means =
        part_if (has_means h) d _ (record_bytes * entries_in s g + lower_bytes s g h) (record_bytes * rows_in s g) (λ e.
        rows_back d bytes s g (means_of s g h d) (means_from s g h) (means_fit s g d h of e)
        (λ p z hp hz. (due.1.1 e p z hp hz, refl))
        ∙ ap (λ n. take (record_bytes * rows_in s g) (drop n d)) (before_means s g h))
