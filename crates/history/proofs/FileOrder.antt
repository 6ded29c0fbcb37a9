-- Every answer equals that under the order of files (request A.6): after any list of calls both registers hold the same pair of files, and each reads back at an
-- entry the number that it put there.
use Prim.Native.Nat.{ℕ, ◌≤◌}
use mathlib.Core.Bool.{Bool, true, false, cond, ◌&&◌}
use mathlib.Core.List.{List, [], ◌∷◌}
use mathlib.Core.Logic.Iff
use mathlib.Core.Option.{Option, none, some}
use mathlib.Core.Path.{◌≡◌, refl, sym, ap, subst, ◌∙◌}
use lib.ListN.{length}
use Rattle.walks.specs.Order.{entries_in, entry_at, exit_place}
use Rattle.walks.proofs.Lists.{get_d_zeros}
use Rattle.walks.proofs.Exactly.{same_test}
use Rattle.walks.proofs.Exits.{file_ordered, exit_ordered}
use Rattle.ppda.specs.Equations.{Vector, entries}
use Rattle.model.specs.Format.{most_entries}
use Rattle.model.specs.Records.{states_of, symbols_of}
use Rattle.delivery.specs.declared.shape.Shape.{Shape}
use Rattle.delivery.specs.Shapes.{has_lowers, same_shape}
use Rattle.delivery.specs.Numbers.{uppers_of, lowers_of}
use Rattle.delivery.specs.Merged.{merged_shape, merged}
use Rattle.delivery.proofs.Shapes.{same_shape_lem}
use Rattle.verdict.specs.Verdict.{verdict}
use Rattle.verdict.specs.Accepted.{RightFiles}
use Rattle.verdict.proofs.Accepted.{delivery_accepted}
use Rattle.held.specs.Held.{listed, listed_by_exit, if_standing, model_held, numbers_held, holds_model}
use Rattle.held.specs.Places.{has_entry, entries_by_exit, entry_value, exit_value}
use Rattle.held.proofs.Bounds.{entry_exactly}
use Rattle.held.proofs.Listed.{held_either_way}
use Rattle.merging.proofs.Accepted.{merged_file}
use Rattle.merging.proofs.Held.{merged_in_order}
use Rattle.filing.specs.Outcomes.{delivery_outcome, merge_outcome}
use Rattle.filing.specs.Known.{same_to, same_numbers, mark_by}
use Rattle.calls.specs.declared.Mark.TheVariants.{Known, New}
use Rattle.calls.specs.Answers.{answered, delivery_reply, answer_reply}
use Rattle.calls.specs.Calls as Calls
use Rattle.calls.specs.Calls.{Call, taken}
use Rattle.register.specs.declared.Register.{Register}
use Rattle.register.specs.Filing as Filing
use Rattle.register.specs.Filing.{with_model, holding_numbers, received, delivery_by, shape_for}
use Rattle.register.specs.Merging.{merge_by, merge_delivery}
use Rattle.register.specs.Questions.{upper_in, lower_in, mean_in, margin_in, live_in, within_in}
use Rattle.history.specs.Plain.{Pair, last_model, last_delivery, pair_of, of_model, of_delivery, by_verdict, mark_of, merged_with, plain_reply}
use Rattle.history.specs.Run.{reply_of, history, holding, register_of}
use Rattle.history.specs.FileOrder.{numbers_by_file, merged_by_file, delivery_by_file, file_delivery_by_file, merge_by_file, merge_delivery_by_file, upper_by_file, lower_by_file, after_by_file, reply_by_file, register_by_file}
use Rattle.history.specs.ByExit.{SameAnswers}
use Rattle.history.proofs.Same.{same_listed}
use Rattle.history.proofs.Pairs.{Right, WayOfHolding, as_held, model_there, file_there, model_filed, model_next, counter_filed, counter_next, few_entries, held_length, model_right, model_held_lem, delivery_by_verdict, merge_by_verdict, joined_is, cleared_holds, mark_taken, pair_after}
use Rattle.history.proofs.Plain.{holds_pair, right_pair, as_plain_pair}
use Rattle.outcome.specs.Outcomes.{Outcome, Accepted, Refused}
use Rattle.std.specs.Prelude.{Some, Err, Ok}

-- ---- what is held either way

-- Listed vectors have the same numbers in the one order exactly where they have in the other.
same_either_way : (s g : ℕ) → entries_in s g ≤ most_entries → (t : Bool) (u v : Vector)
    → same_to (entries_in s g) (if_standing t (listed_by_exit s g u)) (if_standing t (listed_by_exit s g v))
    ≡ same_to (entries_in s g) (if_standing t (listed s g u)) (if_standing t (listed s g v))
same_either_way s g few true u v =
    same_test _ _ (Iff.trans (Iff.symm (same_listed (exit_ordered s g) few u v)) (same_listed (file_ordered s g) few u v))
same_either_way s g few false u v = refl

-- The number that is read of an entry, of a block that may be absent, is the same.
value_either_way : (s g : ℕ) → entries_in s g ≤ most_entries → (t : Bool) (v : Vector) (p z q : ℕ)
    → entry_value s g (if_standing t (listed s g v)) p z q ≡ exit_value s g (if_standing t (listed_by_exit s g v)) p z q
unfolding entry_value exit_value
value_either_way s g few t v p z q = go (has_entry s g p z q) refl t
  where
    go : (x : Bool) → has_entry s g p z q ≡ x → (t : Bool)
        → cond x (entries s g (if_standing t (listed s g v)) p z q) 0 ≡ cond x (entries_by_exit s g (if_standing t (listed_by_exit s g v)) p z q) 0
    go true e true = let ((hp, hz), hq) = (entry_exactly s g p z q).0 e in sym (held_either_way s g v few p z q hp hz hq)
    go true e false = get_d_zeros most_entries (entry_at s g p z q) ∙ sym (get_d_zeros most_entries (exit_place s g p z q))
    go false e t = refl

-- So have deliveries of one shape, and the marks are the same.
module _ (b e d : List ℕ) (few : entries_in (states_of b) (symbols_of b) ≤ most_entries) where
  numbers_alike : (h : Shape)
      → same_numbers (states_of b) (symbols_of b) (numbers_held b h e) (numbers_held b h d)
      ≡ same_numbers (states_of b) (symbols_of b) (numbers_by_file b h e) (numbers_by_file b h d)
  unfolding same_numbers numbers_held numbers_by_file
  numbers_alike h =
      let s = states_of b in
      let g = symbols_of b in
      let uppers : same_to (entries_in s g) (listed_by_exit s g (uppers_of s g e)) (listed_by_exit s g (uppers_of s g d))
      ≡ same_to (entries_in s g) (listed s g (uppers_of s g e)) (listed s g (uppers_of s g d)) =
      same_either_way s g few true (uppers_of s g e) (uppers_of s g d) in
      rw (uppers, same_either_way s g few (has_lowers h) (lowers_of s g e) (lowers_of s g d))

  marks_alike : (h k : Shape)
      → mark_by (states_of b) (symbols_of b) (Some h) (numbers_held b h e) k (numbers_held b k d)
      ≡ mark_by (states_of b) (symbols_of b) (Some h) (numbers_by_file b h e) k (numbers_by_file b k d)
  unfolding mark_by
  marks_alike h k = ap (λ t. cond t Known New) (go (same_shape h k) refl)
    where
      go : (t : Bool) → same_shape h k ≡ t
          → (t && same_numbers (states_of b) (symbols_of b) (numbers_held b h e) (numbers_held b k d))
          ≡ (t && same_numbers (states_of b) (symbols_of b) (numbers_by_file b h e) (numbers_by_file b k d))
      go true q =
          subst
          (λ x. same_numbers (states_of b) (symbols_of b) (numbers_held b h e) (numbers_held b x d)
          ≡ same_numbers (states_of b) (symbols_of b) (numbers_by_file b h e) (numbers_by_file b x d))
          ((same_shape_lem h k).0 q) (numbers_alike h)
      go false q = refl

-- The numbers merged in the order of files are those of the merged file.
merged_by_file_lem : (b e d : List ℕ) (one : RightFiles b e) (other : RightFiles b d)
    → merged_by_file b one.shaped (numbers_by_file b one.shaped e) other.shaped (numbers_by_file b other.shaped d)
    ≡ numbers_by_file b (merged_shape one.shaped other.shaped) (merged b e d)
unfolding merged_by_file numbers_by_file
merged_by_file_lem b e d one other = merged_in_order b e d one other (file_ordered (states_of b) (symbols_of b))

-- ---- the register that holds a pair in the order of files

abbrev by_file : Option (List ℕ) → Option (List ℕ) → Register
by_file none d = Filing.cleared
by_file (some b) none = with_model b
by_file (some b) (some d) = (holding_numbers (with_model b) b (shape_for b d) (numbers_by_file b (shape_for b d) d)).register

model_by_file : (b : List ℕ) (y : Option (List ℕ)) → (by_file (some b) y).model ≡ model_held b
unfolding with_model
model_by_file b none = refl
model_by_file b (some d) = refl

held_so : WayOfHolding by_file
held_so = record { empty = λ y. refl; alone = λ b. refl; model = model_by_file }

module _ (b : List ℕ) where
  delivery_by_file_lem : (y : Option (List ℕ)) → Right (some b) y → (d : List ℕ)
      → file_delivery_by_file (by_file (some b) y) d ≡ delivery_by_file (verdict b d) (by_file (some b) y) b d
  unfolding file_delivery_by_file delivery_outcome
  delivery_by_file_lem y right d = rw (model_there held_so b y right, file_there held_so b y right)

  -- A delivery's mark, by what is held.
  mark_by_file : (y : Option (List ℕ)) → Right (some b) y → (d : List ℕ)
      → (delivery_by_file Accepted (by_file (some b) y) b d).receipt ≡ (received (holding (some b) y) b (shape_for b d) d).receipt
  unfolding mark_by with_model
  mark_by_file none right d = refl
  mark_by_file (some e) right d = ap Ok (sym (marks_alike b e d (few_entries b (model_right b (some e) right)) (shape_for b e) (shape_for b d)))

module _ (b e d : List ℕ) (former : verdict b e ≡ Accepted) where
  merge_by_verdict_by_file : merge_delivery_by_file (by_file (some b) (some e)) d ≡ merge_by_file (verdict b d) (by_file (some b) (some e)) b d
  unfolding merge_delivery_by_file merge_outcome
  merge_by_verdict_by_file = rw (model_there held_so b (some e) former, file_there held_so b (some e) former)

  -- What is held of the two deliveries makes what is held of the merged file.
  joined_by_file : verdict b d ≡ Accepted
      → merge_by_file Accepted (by_file (some b) (some e)) b d ≡ delivery_by_file Accepted (by_file (some b) (some e)) b (merged b e d)
  unfolding shape_for
  joined_by_file is =
      let one = (delivery_accepted b e).0 former in
      let other = (delivery_accepted b d).0 is in
      let file = merged_file b e d one other in
      rw (one.delivery.shape, other.delivery.shape, file.shape, merged_by_file_lem b e d one other)

-- ---- its replies are those of today's

delivery_alike : (m y : Option (List ℕ)) → Right m y → (d : List ℕ)
    → delivery_reply (file_delivery_by_file (by_file m y) d).receipt
    ≡ delivery_reply (Filing.file_delivery (holding m y) d).receipt
unfolding file_delivery_by_file Filing.file_delivery delivery_outcome
delivery_alike none y right d = rw cleared_holds
delivery_alike (some b) y right d = rw (delivery_by_file_lem b y right d, delivery_by_verdict b y right d) (go (verdict b d))
  where
    go : (o : Outcome)
        → delivery_reply (delivery_by_file o (by_file (some b) y) b d).receipt
        ≡ delivery_reply (delivery_by o (holding (some b) y) b d).receipt
    go (Ok u) = ap delivery_reply (mark_by_file b y right d)
    go (Err why) = refl

merge_alike : (m y : Option (List ℕ)) → Right m y → (d : List ℕ)
    → delivery_reply (merge_delivery_by_file (by_file m y) d).receipt
    ≡ delivery_reply (merge_delivery (holding m y) d).receipt
unfolding merge_delivery_by_file merge_delivery merge_outcome with_model
merge_alike none y right d = rw cleared_holds
merge_alike (some b) none right d = rw (model_held_lem b none right)
merge_alike (some b) (some e) right d = rw (merge_by_verdict_by_file b e d right, merge_by_verdict b e d right) (go (verdict b d) refl)
  where
    go : (o : Outcome) → verdict b d ≡ o →
        let x = merge_by_file o (by_file (some b) (some e)) b d in
        let y = merge_by o (holding (some b) (some e)) b d in
        delivery_reply x.receipt ≡ delivery_reply y.receipt
    go (Ok u) is =
        ap (λ x. delivery_reply x.receipt) (joined_by_file b e d right is)
        ∙ ap delivery_reply (mark_by_file b (some e) right (merged b e d))
        ∙ sym (ap (λ x. delivery_reply x.receipt) (joined_is b e d right is))
    go (Err why) is = refl

upper_alike : (m y : Option (List ℕ)) → Right m y → (p z q : ℕ) → answer_reply (upper_by_file (by_file m y) p z q) ≡ answer_reply (upper_in (holding m y) p z q)
unfolding upper_by_file upper_in with_model model_held numbers_by_file numbers_held
upper_alike none y right p z q = rw cleared_holds
upper_alike (some b) none right p z q = rw (held_length b right)
upper_alike (some b) (some d) right p z q =
    let s = states_of b in
    let g = symbols_of b in
    let same : entry_value s g (listed s g (uppers_of s g d)) p z q ≡ exit_value s g (listed_by_exit s g (uppers_of s g d)) p z q =
    value_either_way s g (few_entries b (model_right b (some d) right)) true (uppers_of s g d) p z q in
    ap (λ n. answer_reply (answered (holds_model (length b)) true (has_entry s g p z q) true n)) same

lower_alike : (m y : Option (List ℕ)) → Right m y → (p z q : ℕ) → answer_reply (lower_by_file (by_file m y) p z q) ≡ answer_reply (lower_in (holding m y) p z q)
unfolding lower_by_file lower_in with_model model_held numbers_by_file numbers_held
lower_alike none y right p z q = rw cleared_holds
lower_alike (some b) none right p z q = rw (held_length b right)
lower_alike (some b) (some d) right p z q =
    let s = states_of b in
    let g = symbols_of b in
    ap (λ n. answer_reply (answered (holds_model (length b)) true (has_entry s g p z q) (has_lowers (shape_for b d)) n))
    (value_either_way s g (few_entries b (model_right b (some d) right)) (has_lowers (shape_for b d)) (lowers_of s g d) p z q)

-- The other questions do not look at uppers and lowers.
mean_alike : (m y : Option (List ℕ)) (p z : ℕ) → mean_in (by_file m y) p z ≡ mean_in (holding m y) p z
unfolding mean_in numbers_by_file numbers_held
mean_alike none y p z = refl
mean_alike (some b) none p z = refl
mean_alike (some b) (some d) p z = refl

margin_alike : (m y : Option (List ℕ)) → margin_in (by_file m y) ≡ margin_in (holding m y)
unfolding margin_in numbers_by_file numbers_held
margin_alike none y = refl
margin_alike (some b) none = refl
margin_alike (some b) (some d) = refl

live_alike : (m y : Option (List ℕ)) (p z q : ℕ) → live_in (by_file m y) p z q ≡ live_in (holding m y) p z q
unfolding live_in
live_alike none y p z q = refl
live_alike (some b) none p z q = refl
live_alike (some b) (some d) p z q = refl

within_alike : (m y : Option (List ℕ)) (n p z q : ℕ) → within_in (by_file m y) n p z q ≡ within_in (holding m y) n p z q
unfolding within_in
within_alike none y n p z q = refl
within_alike (some b) none n p z q = refl
within_alike (some b) (some d) n p z q = refl

reply_alike : (m y : Option (List ℕ)) → Right m y → (c : Call) → reply_by_file (by_file m y) c ≡ reply_of (holding m y) c
unfolding reply_by_file reply_of
reply_alike m y right Calls.clear = refl
reply_alike m y right (Calls.file_model b) = model_filed held_so m y right b ∙ sym (model_filed as_held m y right b)
reply_alike m y right (Calls.file_counter c) = counter_filed held_so m y right c ∙ sym (counter_filed as_held m y right c)
reply_alike m y right (Calls.file_delivery d) = delivery_alike m y right d
reply_alike m y right (Calls.merge d) = merge_alike m y right d
reply_alike m y right (Calls.upper p z q) = upper_alike m y right p z q
reply_alike m y right (Calls.lower p z q) = lower_alike m y right p z q
reply_alike m y right (Calls.mean_steps p z) = ap answer_reply (mean_alike m y p z)
reply_alike m y right Calls.margin = ap answer_reply (margin_alike m y)
reply_alike m y right (Calls.live p z q) = ap answer_reply (live_alike m y p z q)
reply_alike m y right (Calls.within n p z q) = ap answer_reply (within_alike m y n p z q)

-- ---- it holds the next pair after a call

-- An accepted delivery takes the place of any before.
replaced_by_file : (b d : List ℕ) (y : Option (List ℕ)) → (delivery_by_file Accepted (by_file (some b) y) b d).register ≡ by_file (some b) (some d)
replaced_by_file b d none = refl
replaced_by_file b d (some e) = refl

delivery_next : (m y : Option (List ℕ)) → Right m y → (d : List ℕ) →
    let t = taken (of_model m (λ b. by_verdict (verdict b d) (mark_of b y d))) in
    (file_delivery_by_file (by_file m y) d).register ≡ by_file m (cond t (some d) y)
unfolding file_delivery_by_file delivery_outcome
delivery_next none y right d = rw cleared_holds
delivery_next (some b) y right d = rw (delivery_by_file_lem b y right d) (go (verdict b d))
  where
    go : (o : Outcome) →
        let t = taken (by_verdict o (mark_of b y d)) in
        (delivery_by_file o (by_file (some b) y) b d).register ≡ by_file (some b) (cond t (some d) y)
    go (Ok u) = rw (mark_taken b d y) (replaced_by_file b d y)
    go (Err why) = refl

merge_next : (m y : Option (List ℕ)) → Right m y → (d : List ℕ) →
    let t = taken (of_model m (λ b. of_delivery y (λ e. by_verdict (verdict b d) (mark_of b (some e) (merged b e d))))) in
    (merge_delivery_by_file (by_file m y) d).register ≡ by_file m (cond t (merged_with m y d) y)
unfolding merge_delivery_by_file merge_outcome with_model
merge_next none y right d = rw cleared_holds
merge_next (some b) none right d = rw (model_held_lem b none right)
merge_next (some b) (some e) right d = rw (merge_by_verdict_by_file b e d right) (go (verdict b d) refl)
  where
    go : (o : Outcome) → verdict b d ≡ o →
        let t = taken (by_verdict o (mark_of b (some e) (merged b e d))) in
        (merge_by_file o (by_file (some b) (some e)) b d).register ≡ by_file (some b) (cond t (some (merged b e d)) (some e))
    go (Ok u) is =
        rw (mark_taken b (merged b e d) (some e))
        (ap (λ x. x.register) (joined_by_file b e d right is) ∙ replaced_by_file b (merged b e d) (some e))
    go (Err why) is = refl

next_alike : (x : Pair) → Right x.model x.delivery → (c : Call)
    → after_by_file (by_file x.model x.delivery) c ≡ by_file (pair_after x c).model (pair_after x c).delivery
unfolding after_by_file plain_reply
next_alike x right Calls.clear = refl
next_alike x right (Calls.file_model b) = model_next held_so x.model x.delivery right b
next_alike x right (Calls.file_counter c) = counter_next held_so x.model x.delivery right c
next_alike x right (Calls.file_delivery d) = delivery_next x.model x.delivery right d
next_alike x right (Calls.merge d) = merge_next x.model x.delivery right d
next_alike x right (Calls.upper p z q) = refl
next_alike x right (Calls.lower p z q) = refl
next_alike x right (Calls.mean_steps p z) = refl
next_alike x right Calls.margin = refl
next_alike x right (Calls.live p z q) = refl
next_alike x right (Calls.within n p z q) = refl

-- ---- any list of calls

pair_by_file : (cs : List Call) → register_by_file cs ≡ by_file (last_model (history cs)) (last_delivery (history cs))
unfolding register_by_file history last_model last_delivery
pair_by_file [] = refl
pair_by_file (c ∷ cs) =
    rw (as_plain_pair cs c) (ap (λ r. after_by_file r c) (pair_by_file cs) ∙ next_alike (pair_of (history cs)) (right_pair cs) c)

-- Every answer equals that under the order of files.
pub same_answers : (cs : List Call) → SameAnswers cs
unfolding register_of
same_answers cs c =
    ap (λ r. reply_of r c) (holds_pair cs)
    ∙ sym (reply_alike (last_model (history cs)) (last_delivery (history cs)) (right_pair cs) c)
    ∙ sym (ap (λ r. reply_by_file r c) (pair_by_file cs))
