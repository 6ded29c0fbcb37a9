-- No byte of an accepted counter file is left unread: it is the file made of its moves, since a record is eight bytes, of which the last four tell the weight, and
-- what is no number of the move is 0.
use Prim.Native.Nat.{ℕ, zero, suc, ◌+◌, ◌*◌, ◌≤◌, ◌<◌}
use native.Mathlib.Nat.{add-zero}
use native.Mathlib.Omega.{arith}
use mathlib.Core.List.{List, [], ◌∷◌, ◌++◌, append_assoc, append-nil}
use mathlib.Core.Path.{◌≡◌, refl, sym, ap, ap₂, ◌∙◌}
use lib.ListN.{length, get_or, take, drop}
use lib.Seq.{take-length, take-add}
use Rattle.words.specs.Words.{Bytes}
use Rattle.words.proofs.Words.{part_next, made_word}
use Rattle.walks.specs.Lists.{list_to}
use Rattle.onecounter.specs.Moves.{shift_number, Move}
use Rattle.counter.specs.Format.{record_bytes, weight_byte}
use Rattle.counter.specs.Records.{moves_in, byte_in, from_at, to_at, shift_at, zero_at, weight_in}
use Rattle.counter.specs.Moves.{shift_of, move_of, moves_of}
use Rattle.counter.specs.Accepted.{MoveRight, MovesRight}
use Rattle.counter.specs.Made.{counter_record, made_counter}

-- The eight bytes of a move.
abbrev move_record : Move → List ℕ
move_record e = counter_record e.from e.to (shift_number e.shift) 0 e.weight

made_append : (l m : List Move) → made_counter (l ++ m) ≡ made_counter l ++ made_counter m
unfolding made_counter
made_append [] m = refl
made_append (e ∷ l) m = ap (λ k. move_record e ++ k) (made_append l m) ∙ sym (append_assoc (move_record e) (made_counter l) (made_counter m))

-- d is told by what it does.
number_back : (d : ℕ) → d ≤ 2 → shift_number (shift_of d) ≡ d
number_back zero h = refl
number_back (suc zero) h = refl
number_back (suc (suc zero)) h = refl
number_back (suc (suc (suc d))) h = absurd (omega arith)

module _ (c : List ℕ) (bytes : Bytes c) where
  -- Record i of the file is eight bytes.
  eight_bytes : (i : ℕ) → record_bytes * i + record_bytes ≤ length c
      → counter_record (from_at c i) (to_at c i) (shift_at c i) (zero_at c i) (weight_in c i) ≡ take record_bytes (drop (record_bytes * i) c)
  unfolding byte_in weight_in
  eight_bytes i h =
      sym (
      ap (λ j. take record_bytes (drop j c)) (sym (add-zero (record_bytes * i)))
      ∙ rw (step 0 7 (omega arith), step 1 6 (omega arith), step 2 5 (omega arith), step 3 4 (omega arith), made_word c (record_bytes * i + weight_byte) bytes (omega arith))
      )
    where
      step : (k n : ℕ) → k < record_bytes → take (suc n) (drop (record_bytes * i + k) c) ≡ get_or c (record_bytes * i + k) 0 ∷ take n (drop (record_bytes * i + suc k) c)
      step k n l = part_next c (record_bytes * i) k n (omega arith)

  record_back : (i : ℕ) → record_bytes * i + record_bytes ≤ length c → MoveRight c i → move_record (move_of c i) ≡ take record_bytes (drop (record_bytes * i) c)
  unfolding move_of
  record_back i h r = rw (number_back (shift_at c i) r.shift_range) (ap (λ z. counter_record (from_at c i) (to_at c i) (shift_at c i) z (weight_in c i)) (sym r.fourth_zero) ∙ eight_bytes i h)

  -- The first n records.
  records_back : (n : ℕ) → record_bytes * n ≤ length c → ((i : ℕ) → i < n → MoveRight c i) → made_counter (list_to (move_of c) n) ≡ take (record_bytes * n) c
  unfolding list_to made_counter
  records_back zero h right = refl
  records_back (suc n) h right =
      let e : record_bytes * n + record_bytes ≡ record_bytes * suc n = omega arith in
      made_append (list_to (move_of c) n) (move_of c n ∷ [])
      ∙ ap₂ ◌++◌ (records_back n (omega arith) (λ i l. right i (omega arith)))
      (append-nil (move_record (move_of c n)) ∙ record_back n (omega arith) (right n (omega arith)))
      ∙ sym (take-add (record_bytes * n) record_bytes c) ∙ ap (λ k. take k c) e

pub made_of_moves : (c : List ℕ) → MovesRight c → Bytes c → made_counter (moves_of c) ≡ c
unfolding moves_of
made_of_moves c m bytes =
    let whole : length c ≡ record_bytes * moves_in c = m.whole in
    records_back c bytes (moves_in c) (omega arith) m.right ∙ ap (λ n. take n c) (sym whole) ∙ take-length c

-- So two files that say the same machine are the same bytes.
pub told_by_moves : (c d : List ℕ) → MovesRight c → Bytes c → MovesRight d → Bytes d → moves_of c ≡ moves_of d → c ≡ d
told_by_moves c d m bytes n bytes' e = sym (made_of_moves c m bytes) ∙ ap made_counter e ∙ made_of_moves d n bytes'
