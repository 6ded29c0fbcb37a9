-- A file is told by its records: two files with the same fields in every record are the same bytes.
use Prim.Native.Nat.{ℕ, ◌+◌, ◌*◌, ◌<◌}
use native.Mathlib.Omega.{arith}
use mathlib.Core.List.{List}
use mathlib.Core.Path.{◌≡◌, refl, sym, ap, ◌∙◌}
use lib.ListN.{length, take, drop}
use lib.Seq.{take_all}
use Rattle.walks.specs.Lists.{each}
use Rattle.words.specs.Words.{Bytes}
use Rattle.delivery.specs.Format.{record_bytes}
use Rattle.delivery.specs.Records.{kind_at, state_at, symbol_at, exit_at, value_at}
use Rattle.delivery.specs.Made.{delivery_record}
use Rattle.delivery.proofs.Made.{parts_joined, record_again_lem}

-- Record i has the same kind, p, Z, q and value in both files.
abbrev pub SameFields : List ℕ → List ℕ → ℕ → Type 0
SameFields d e i =
    (kind_at d i ≡ kind_at e i)
    × ((state_at d i ≡ state_at e i)
    × ((symbol_at d i ≡ symbol_at e i) × ((exit_at d i ≡ exit_at e i) × (value_at d i ≡ value_at e i))))

-- Record i of a file, made again of its fields.
abbrev record_again : List ℕ → ℕ → List ℕ
record_again d i = delivery_record (kind_at d i) (state_at d i) (symbol_at d i) (exit_at d i) (value_at d i)

-- The records of a file, one after the other, are the file.
records_again : (n : ℕ) (d : List ℕ) → Bytes d → length d ≡ record_bytes * n → (h : ℕ → List ℕ) → ((i : ℕ) → i < n → h i ≡ record_again d i) → each n h ≡ d
records_again n d bytes size h same =
    parts_joined record_bytes h d 0 n part ∙ take_all (n * record_bytes) d (omega arith)
  where
    part : (i : ℕ) → i < n → h i ≡ take record_bytes (drop (0 + i * record_bytes) d)
    part i lt =
        let place : record_bytes * i ≡ 0 + i * record_bytes = omega arith in
        same i lt ∙ record_again_lem d bytes i (omega arith) ∙ ap (λ j. take record_bytes (drop j d)) place

pub told_by_records : (n : ℕ) (d e : List ℕ) → Bytes d → Bytes e → length d ≡ record_bytes * n → length e ≡ record_bytes * n
    → ((i : ℕ) → i < n → SameFields d e i) → d ≡ e
told_by_records n d e bytes bytes' size size' same =
    sym (records_again n d bytes size (record_again d) (λ i lt. refl)) ∙ records_again n e bytes' size' (record_again d) (λ i lt.
    let (kind, (state, (symbol, (exit, value)))) = same i lt in rw (kind, state, symbol, exit, value))
