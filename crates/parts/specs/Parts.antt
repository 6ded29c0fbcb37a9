-- Parts of files: a record, and the record that a refusal names (document 01: "A helper hands back the offending record itself").
use Rattle.std.specs.Prelude.{ℕ, ◌+◌, ◌*◌, ◌/◌, Bool, cond, ◌&&◌, ◌||◌, List, ◌≡◌, eqb, leb, ltb, length, take, drop}
use Rattle.model.specs.Format as model
use Rattle.delivery.specs.Format as delivery
use Rattle.parts.specs.declared.record.Kind.{Kind}
use Rattle.parts.specs.declared.record.Kind.TheVariants.{Model, Delivery}

-- A part of a file: so many bytes from a start.
pub record Part : Type 0 where
  pub start : ℕ
  pub count : ℕ

abbrev pub bytes_from : ℕ → ℕ → Part
bytes_from a n = record { start = a; count = n }

-- The empty part at the start of a file.
abbrev pub nothing : Part
nothing = bytes_from 0 0

-- Bytes that lie in memory: the block, the offset in it, and the bytes. Empty parts are told apart by where they start.
pub record Lying {A : Type 0} (block : A) (offset : ℕ) (bytes : List ℕ) (x : Part) (block' : A) (offset' : ℕ) (bytes' : List ℕ) : Type 0 where
  pub same : block' ≡ block
  pub at : offset' ≡ offset + x.start
  pub are : bytes' ≡ take x.count (drop x.start bytes)

-- The bytes of a record of each kind of file.
abbrev pub size_of : Kind → ℕ
size_of Model = model.record_bytes
size_of Delivery = delivery.record_bytes

-- Record i is whole in the file.
unfoldable pub is_whole : Kind → List ℕ → ℕ → Bool
is_whole k b i = ltb i (length b / size_of k)

-- Record i, or nothing where it is not whole.
unfoldable pub record_part : Kind → List ℕ → ℕ → Part
record_part k b i = cond (is_whole k b i) (bytes_from (size_of k * i) (size_of k)) nothing

-- The number of the record after record i: the same where record i is not whole, since the walk is at its end.
unfoldable pub next_after : Kind → List ℕ → ℕ → ℕ
next_after k b i = cond (is_whole k b i) (i + 1) i

-- The reasons whose place is a record of the model, 11 to 14, and of the delivery, 21 to 27; and those of the model as a whole, 10 and 15.
unfoldable pub names_rule : ℕ → Bool
names_rule n = leb 11 n && leb n 14

unfoldable pub names_bound : ℕ → Bool
names_bound n = leb 21 n && leb n 27

unfoldable pub names_model : ℕ → Bool
names_model n = eqb n 10 || eqb n 15

-- A part of the model or of the delivery.
pub data Offending : Type 0 where
  in_model : (x : Part) → Offending
  in_delivery : (x : Part) → Offending

-- The offending record of the refusal with number n and place i, for the model b and the delivery d: nothing of the model for 10 and 15, its
-- record for 11 to 14, the delivery's record for 21 to 27; nothing of the delivery for every other number, and where the record is not whole.
unfoldable pub offending_part : ℕ → ℕ → List ℕ → List ℕ → Offending
offending_part n i b d =
    cond (names_model n) (in_model nothing)
    (cond (names_rule n && is_whole Model b i) (in_model (record_part Model b i))
    (cond (names_bound n) (in_delivery (record_part Delivery d i))
    (in_delivery nothing)))

-- Bytes that lie where that part of the model, or of the delivery, does.
abbrev pub LyingIn : {A : Type 0} → Offending → A → ℕ → List ℕ → A → ℕ → List ℕ → A → ℕ → List ℕ → Type 0
LyingIn (in_model x) mBlock mOffset model dBlock dOffset delivery = Lying mBlock mOffset model x
LyingIn (in_delivery x) mBlock mOffset model dBlock dOffset delivery = Lying dBlock dOffset delivery x
