-- A register that holds a pair of accepted files replies to each call as the plain pair does, and holds the next pair after it.
use Prim.Native.Nat.{ℕ, ◌≤◌}
use native.Mathlib.Omega.{arith}
use mathlib.Core.Bool.{Bool, true, false, cond, ◌&&◌}
use mathlib.Core.List.{List}
use mathlib.Core.Option.{Option, none, some}
use mathlib.Core.Path.{◌≡◌, refl, sym, ap, ◌∙◌}
use lib.Dec.{ltb, leb}
use lib.ListN.{length}
use Rattle.walks.specs.Order.{entries_in}
use Rattle.walks.proofs.Exactly.{lt_exactly, le_exactly, both}
use Rattle.walks.proofs.Exits.{file_ordered, exit_ordered}
use Rattle.ppda.specs.Equations.{Vector, RowVector, entries, rows, SameRows, Same}
use Rattle.model.specs.Records.{states_of, symbols_of}
use Rattle.model.specs.Format.{most_bytes, most_entries}
use Rattle.wellformed.specs.Verdict.{model_verdict}
use Rattle.model.proofs.Accepted.{sized_fits}
use Rattle.wellformed.proofs.Accepted.{model_accepted, sized_of}
use Rattle.delivery.specs.Shapes.{has_lowers, has_means, shape_of}
use Rattle.delivery.specs.Numbers.{uppers_of, lowers_of, means_of}
use Rattle.model.specs.Clauses.{Sized}
use Rattle.verdict.specs.Marks.{live_mark}
use Rattle.verdict.specs.Accepted.{RightFiles}
use Rattle.certificate.specs.Margin.{margin_of}
use Rattle.verdict.specs.Verdict.{verdict}
use Rattle.verdict.proofs.Accepted.{delivery_accepted}
use Rattle.calls.specs.declared.Mark.TheVariants.{Known, New}
use Rattle.held.specs.Held.{listed, listed_by_exit, listed_rows, if_standing, no_model, model_held, numbers_held, holds_model}
use Rattle.held.specs.Places.{has_row, has_entry, entries_by_exit, row_value, entry_value, exit_value}
use Rattle.held.proofs.Listed.{listed_at, rows_at, filled_back}
use Rattle.register.specs.declared.Register.{Register}
use Rattle.register.specs.Filing as Filing
use Rattle.filing.specs.Outcomes.{model_outcome, file_of, delivery_outcome, merge_outcome}
use Rattle.filing.specs.Known.{mark_by}
use Rattle.register.specs.Filing.{with_model, model_by, delivery_by, received, shape_for}
use Rattle.register.specs.Merging.{joined, merge_by, merge_delivery}
use Rattle.delivery.specs.Merged.{merged}
use Rattle.merging.proofs.Accepted.{merged_file, merged_accepted}
use Rattle.merging.proofs.Held.{merged_numbers}
use Rattle.calls.specs.Answers.{answered}
use Rattle.register.specs.Questions.{has_model, upper_in, lower_in, mean_in, margin_in, live_in, within_in}
use Rattle.counter.specs.Verdict.{counter_verdict}
use Rattle.counter.specs.Made.{counter_model}
use Rattle.counter.specs.Filing.{counter_outcome, counter_by}
use Rattle.counter.specs.Filing as Counter
use Rattle.counter.proofs.Made.{made_accepted}
use Rattle.calls.specs.Calls.{Call, clear, file_model, file_counter, file_delivery, merge, upper, lower, mean_steps, margin, live, within, Reply, accepted, known, new, value, refusal, taken}
use Rattle.history.specs.Plain.{Pair, of_model, of_delivery, if_none, at_row, at_entry, of_block, to_three, by_verdict, same_delivery, mark_of, merged_with, model_after, delivery_after, plain_reply}
use Rattle.calls.specs.Answers.{answered_or, model_reply, mark_reply, delivery_reply, answer_reply}
use Rattle.outcome.specs.declared.Reason.TheVariants.{TooManySteps}
use Rattle.ppda.specs.Chances.{chance}
use Rattle.model.specs.Rules.{rules_of}
use Rattle.shortruns.specs.Short.{few_steps}
use Rattle.questions.specs.Questions.{short_chance}
use Rattle.history.specs.Run.{after_call, reply_of, holding, register_of}
use Rattle.history.proofs.Same.{delivery_same}
use Rattle.outcome.specs.Outcomes.{Outcome, Accepted, Refused}
use Rattle.std.specs.Prelude.{Some, None, Err, Ok}

-- The reply to a question on a block that the held delivery may have, for the model b and the delivery d.
abbrev pub lower_reply : List ℕ → List ℕ → ℕ → ℕ → ℕ → Reply
lower_reply b d p z q = of_block has_lowers (shape_of (states_of b) (symbols_of b) d) (λ h. value (lowers_of (states_of b) (symbols_of b) d p z q))

abbrev pub mean_reply : List ℕ → List ℕ → ℕ → ℕ → Reply
mean_reply b d p z = of_block has_means (shape_of (states_of b) (symbols_of b) d) (λ h. value (means_of (states_of b) (symbols_of b) h d p z))

-- The files of a pair are accepted: the model by its own verdict, the delivery with the model. None is held without a model.
abbrev pub Right : Option (List ℕ) → Option (List ℕ) → Type 0
Right none y = y ≡ none
Right (some b) none = model_verdict b ≡ Accepted
Right (some b) (some d) = verdict b d ≡ Accepted

-- ---- a number asked of a list: 44, then 43, then the number

module _ (s g : ℕ) (block : Bool) where
  -- By what is read of the list for an entry, in whatever order it stands.
  entry_reply : (read v : Vector) → (block ≡ true → Same s g read v) → (p z q : ℕ)
      → answer_reply (answered true true (has_entry s g p z q) block (cond (has_entry s g p z q) (read p z q) 0))
      ≡ cond ((ltb p s && ltb z g) && ltb q s) (cond block (value (v p z q)) (refusal 43)) (refusal 44)
  unfolding has_entry has_row
  entry_reply read v same p z q = go ((ltb p s && ltb z g) && ltb q s) refl block refl
    where
      go : (t : Bool) → ((ltb p s && ltb z g) && ltb q s) ≡ t → (k : Bool) → block ≡ k
          → answer_reply (answered true true t k (cond t (read p z q) 0)) ≡ cond t (cond k (value (v p z q)) (refusal 43)) (refusal 44)
      go true e true has =
          let ((hp, hz), hq) = (both _ _ (both _ _ (lt_exactly p s) (lt_exactly z g)) (lt_exactly q s)).0 e in
          ap value (same has p z q hp hz hq)
      go true e false has = refl
      go false e k has = refl

  row_reply : (l : List ℕ) (v : RowVector) → (block ≡ true → SameRows s g (rows g l) v) → (p z : ℕ)
      → answer_reply (answered true true (has_row s g p z) block (row_value s g l p z))
      ≡ cond (ltb p s && ltb z g) (cond block (value (v p z)) (refusal 43)) (refusal 44)
  unfolding has_row row_value
  row_reply l v same p z = go (ltb p s && ltb z g) refl block refl
    where
      go : (t : Bool) → (ltb p s && ltb z g) ≡ t → (k : Bool) → block ≡ k
          → answer_reply (answered true true t k (cond t (rows g l p z) 0)) ≡ cond t (cond k (value (v p z)) (refusal 43)) (refusal 44)
      go true e true has =
          let (hp, hz) = (both _ _ (lt_exactly p s) (lt_exactly z g)).0 e in
          ap value (same has p z hp hz)
      go true e false has = refl
      go false e k has = refl

-- ---- a held model

module _ (b : List ℕ) (is : model_verdict b ≡ Accepted) where
  size : Sized b (states_of b) (symbols_of b)
  size = sized_of is refl refl

  pub held_length : holds_model (length b) ≡ true
  unfolding holds_model
  held_length =
      let records = size.file.records in
      (both _ _ (lt_exactly 0 (length b)) (le_exactly (length b) most_bytes)).1 (omega (arith, records.some, records.most, records.whole))

  pub few_entries : entries_in (states_of b) (symbols_of b) ≤ most_entries
  few_entries = (sized_fits size).few_entries

  listed_same : (v : Vector) → Same (states_of b) (symbols_of b) (entries (states_of b) (symbols_of b) (listed (states_of b) (symbols_of b) v)) v
  listed_same v p z q hp hz hq = listed_at (file_ordered (states_of b) (symbols_of b)) v p z q hp hz hq few_entries

  exits_same : (v : Vector) → Same (states_of b) (symbols_of b) (entries_by_exit (states_of b) (symbols_of b) (listed_by_exit (states_of b) (symbols_of b) v)) v
  exits_same v p z q hp hz hq = listed_at (exit_ordered (states_of b) (symbols_of b)) v p z q hp hz hq few_entries

  rows_same : (v : RowVector) → SameRows (states_of b) (symbols_of b) (rows (symbols_of b) (listed_rows (states_of b) (symbols_of b) v)) v
  rows_same v p z hp hz = rows_at (states_of b) (symbols_of b) v p z hp hz (omega (arith, (sized_fits size).few_rows))

-- The model b of a right pair with the delivery y, if any, is accepted, and it is what the register holds.
pub model_right : (b : List ℕ) (y : Option (List ℕ)) → Right (some b) y → model_verdict b ≡ Accepted
model_right b none right = right
model_right b (some d) right = (model_accepted b).1 ((delivery_accepted b d).0 right).model

pub model_held_right : {m : Option (List ℕ)} {b : List ℕ} (y : Option (List ℕ)) → Right m y → m ≡ some b → model_verdict b ≡ Accepted
model_held_right {b = b} y right held = model_right b y (rw held at right)

pub cleared_holds : holds_model (Filing.cleared).model.length ≡ false
unfolding Filing.cleared no_model holds_model
cleared_holds = refl

-- A way of holding pairs: with no model a cleared register, with a model alone the register of it, and with a model and whatever is held of a delivery one that has
-- the model.
pub record WayOfHolding (at : Option (List ℕ) → Option (List ℕ) → Register) : Type 0 where
  pub empty : (y : Option (List ℕ)) → at none y ≡ Filing.cleared
  pub alone : (b : List ℕ) → at (some b) none ≡ with_model b
  pub model : (b : List ℕ) (y : Option (List ℕ)) → (at (some b) y).model ≡ model_held b

model_of_pair : (b : List ℕ) (y : Option (List ℕ)) → (holding (some b) y).model ≡ model_held b
unfolding with_model
model_of_pair b none = refl
model_of_pair b (some d) = refl

pub as_held : WayOfHolding holding
as_held = record { empty = λ y. refl; alone = λ b. refl; model = model_of_pair }

module _ {at : Option (List ℕ) → Option (List ℕ) → Register} (way : WayOfHolding at) (b : List ℕ) (y : Option (List ℕ)) (right : Right (some b) y) where
  pub model_there : holds_model (at (some b) y).model.length ≡ true
  unfolding model_held
  model_there = rw (way.model b y) (held_length b (model_right b y right))

  pub file_there : file_of (at (some b) y).model ≡ b
  unfolding file_of model_held
  file_there =
      let records = (size b (model_right b y right)).file.records in
      rw (way.model b y) (filled_back most_bytes b (omega (arith, records.most, records.whole)))

module _ (b : List ℕ) (y : Option (List ℕ)) (right : Right (some b) y) where
  pub model_held_lem : holds_model (holding (some b) y).model.length ≡ true
  model_held_lem = model_there as_held b y right

  pub file_held : file_of (holding (some b) y).model ≡ b
  file_held = file_there as_held b y right

  pub delivery_by_verdict : (d : List ℕ) → Filing.file_delivery (holding (some b) y) d ≡ delivery_by (verdict b d) (holding (some b) y) b d
  unfolding Filing.file_delivery delivery_outcome
  delivery_by_verdict d = rw (model_held_lem, file_held)

  live_reply : (p z q : ℕ) → answer_reply (live_in (holding (some b) y) p z q) ≡ at_entry b p z q (value (live_mark b p z q))
  unfolding live_in model_held entry_value
  live_reply p z q =
      let is = model_right b y right in
      simp (model_of_pair b y, held_length b is)
      (entry_reply (states_of b) (symbols_of b) true _ (live_mark b) (λ has. listed_same b is (live_mark b)) p z q)

  -- The chance of a short run: 44, then 45, then the number, which is worked out only where it is shown.
  short_by : (n p z q : ℕ)
      → answer_reply (answered_or true true (has_entry (states_of b) (symbols_of b) p z q) (few_steps n) TooManySteps (short_chance b n p z q))
      ≡ at_entry b p z q (to_three n (value (chance (rules_of b) n p z q)))
  unfolding has_entry has_row few_steps short_chance
  short_by n p z q =
      rw (model_right b y right)
      (go ((ltb p (states_of b) && ltb z (symbols_of b)) && ltb q (states_of b)) (leb n 3))
    where
      go : (t k : Bool) → answer_reply (answered_or true true t k TooManySteps (cond (t && k) (chance (rules_of b) n p z q) 0))
          ≡ cond t (cond k (value (chance (rules_of b) n p z q)) (refusal 45)) (refusal 44)
      go true true = refl
      go true false = refl
      go false k = refl

  within_reply : (n p z q : ℕ)
      → answer_reply (within_in (holding (some b) y) n p z q) ≡ at_entry b p z q (to_three n (value (chance (rules_of b) n p z q)))
  unfolding within_in model_held
  within_reply n p z q =
      let is = model_right b y right in
      let records = (size b is).file.records in
      simp (model_of_pair b y, held_length b is, filled_back most_bytes b (omega (arith, records.most, records.whole))) (short_by n p z q)

-- ---- a held delivery

module _ (b d : List ℕ) (is : verdict b d ≡ Accepted) where
  filed : RightFiles b d
  filed = (delivery_accepted b d).0 is

  model_is : model_verdict b ≡ Accepted
  model_is = model_right b (some d) is

  shaped : shape_of (states_of b) (symbols_of b) d ≡ Some filed.shaped
  shaped = filed.delivery.shape

  upper_reply_lem : (p z q : ℕ) → answer_reply (upper_in (holding (some b) (some d)) p z q)
      ≡ at_entry b p z q (value (uppers_of (states_of b) (symbols_of b) d p z q))
  unfolding upper_in with_model model_held numbers_held exit_value
  upper_reply_lem p z q =
      rw (held_length b model_is)
      (entry_reply (states_of b) (symbols_of b) true _ (uppers_of (states_of b) (symbols_of b) d) (λ has. exits_same b model_is _) p z q)

  lower_reply_lem : (p z q : ℕ) → answer_reply (lower_in (holding (some b) (some d)) p z q) ≡ at_entry b p z q (lower_reply b d p z q)
  unfolding lower_in with_model model_held numbers_held shape_for exit_value
  lower_reply_lem p z q =
      rw (shaped, held_length b model_is)
      (entry_reply (states_of b) (symbols_of b) (has_lowers filed.shaped) (entries_by_exit (states_of b) (symbols_of b) held) (lowers_of (states_of b) (symbols_of b) d)
      (λ has. rw has (exits_same b model_is _)) p z q)
    where
      held : List ℕ
      held = if_standing (has_lowers filed.shaped) (listed_by_exit (states_of b) (symbols_of b) (lowers_of (states_of b) (symbols_of b) d))

  mean_reply_lem : (p z : ℕ) → answer_reply (mean_in (holding (some b) (some d)) p z) ≡ at_row b p z (mean_reply b d p z)
  unfolding mean_in with_model model_held numbers_held shape_for
  mean_reply_lem p z =
      rw (shaped, held_length b model_is)
      (row_reply (states_of b) (symbols_of b) (has_means filed.shaped) _ (means_of (states_of b) (symbols_of b) filed.shaped d)
      (λ has. rw has (rows_same b model_is _)) p z)

  margin_reply_lem : answer_reply (margin_in (holding (some b) (some d)))
      ≡ of_block has_lowers (shape_of (states_of b) (symbols_of b) d) (λ h. value (margin_of b d))
  unfolding margin_in with_model model_held numbers_held shape_for
  margin_reply_lem = rw (shaped, held_length b model_is) (go (has_lowers filed.shaped))
    where
      go : (t : Bool) → answer_reply (answered true true true t (cond t (margin_of b d) 0)) ≡ cond t (value (margin_of b d)) (refusal 43)
      go true = refl
      go false = refl

-- ---- a delivery filed

mark_reply_lem : (b d : List ℕ) (y : Option (List ℕ)) → Right (some b) y → verdict b d ≡ Accepted
    → delivery_reply (received (holding (some b) y) b (shape_for b d) d).receipt ≡ mark_of b y d
unfolding with_model mark_by
mark_reply_lem b d none right is = refl
mark_reply_lem b d (some e) right is = rw (← delivery_same b e d right is) (go (same_delivery b e d))
  where
    go : (t : Bool) → mark_reply (cond t Known New) ≡ cond t known new
    go true = refl
    go false = refl

delivery_held : (b d : List ℕ) (y : Option (List ℕ)) → (received (holding (some b) y) b (shape_for b d) d).register ≡ holding (some b) (some d)
delivery_held b d none = refl
delivery_held b d (some e) = refl

pub mark_taken : (b d : List ℕ) (y : Option (List ℕ)) → taken (mark_of b y d) ≡ true
mark_taken b d none = refl
mark_taken b d (some e) = go (same_delivery b e d)
  where
    go : (t : Bool) → taken (cond t known new) ≡ true
    go true = refl
    go false = refl

-- ---- a delivery merged

module _ (b e d : List ℕ) (former : verdict b e ≡ Accepted) where
  pub merge_by_verdict : merge_delivery (holding (some b) (some e)) d ≡ merge_by (verdict b d) (holding (some b) (some e)) b d
  unfolding merge_delivery merge_outcome
  merge_by_verdict = rw (model_held_lem b (some e) former, file_held b (some e) former)

  -- What is held of the two deliveries makes what is held of the merged file.
  pub joined_is : verdict b d ≡ Accepted
      → joined (holding (some b) (some e)) b (shape_for b d) d
      ≡ received (holding (some b) (some e)) b (shape_for b (merged b e d)) (merged b e d)
  unfolding shape_for
  joined_is is =
      let one = (delivery_accepted b e).0 former in
      let other = (delivery_accepted b d).0 is in
      let file = merged_file b e d one other in
      rw (one.delivery.shape, other.delivery.shape, file.shape, merged_numbers b e d one other)

-- ---- the replies of a register that holds the pair of m and y

-- Filing a model or a counter file looks at the held model alone, so that it goes so with any way of holding.
module _ {at : Option (List ℕ) → Option (List ℕ) → Register} (way : WayOfHolding at) where
  pub model_filed : (m y : Option (List ℕ)) → Right m y → (b : List ℕ)
      → model_reply (Filing.file_model (at m y) b).outcome ≡ if_none m (by_verdict (model_verdict b) accepted)
  unfolding Filing.file_model model_outcome
  model_filed none y right b = rw (way.empty y, cleared_holds) (go (model_verdict b))
    where
      go : (o : Outcome) → model_reply (model_by o Filing.cleared b).outcome ≡ by_verdict o accepted
      go (Ok u) = refl
      go (Err why) = refl
  model_filed (some a) y right b = rw (model_there way a y right)

  pub model_next : (m y : Option (List ℕ)) → Right m y → (b : List ℕ) →
      let t = taken (if_none m (by_verdict (model_verdict b) accepted)) in
      (Filing.file_model (at m y) b).register ≡ at (cond t (some b) m) (cond t none y)
  unfolding Filing.file_model model_outcome
  model_next none y right b = rw (way.empty y, cleared_holds) (go (model_verdict b))
    where
      go : (o : Outcome) → let t = taken (by_verdict o accepted) in (model_by o Filing.cleared b).register ≡ at (cond t (some b) none) (cond t none y)
      go (Ok u) = sym (way.alone b)
      go (Err why) = sym (way.empty y)
  model_next (some a) y right b = rw (model_there way a y right)

  pub counter_filed : (m y : Option (List ℕ)) → Right m y → (c : List ℕ)
      → model_reply (Counter.file_counter (at m y) c).outcome ≡ if_none m (by_verdict (counter_verdict c) accepted)
  unfolding Counter.file_counter counter_outcome has_model
  counter_filed none y right c = rw (way.empty y, cleared_holds) (go (counter_verdict c))
    where
      go : (o : Outcome) → model_reply (counter_by o Filing.cleared c).outcome ≡ by_verdict o accepted
      go (Ok u) = refl
      go (Err why) = refl
  counter_filed (some a) y right c = rw (model_there way a y right)

  pub counter_next : (m y : Option (List ℕ)) → Right m y → (c : List ℕ) →
      let t = taken (if_none m (by_verdict (counter_verdict c) accepted)) in
      (Counter.file_counter (at m y) c).register ≡ at (cond t (some (counter_model c)) m) (cond t none y)
  unfolding Counter.file_counter counter_outcome has_model
  counter_next none y right c = rw (way.empty y, cleared_holds) (go (counter_verdict c))
    where
      go : (o : Outcome) →
          let t = taken (by_verdict o accepted) in
          (counter_by o Filing.cleared c).register ≡ at (cond t (some (counter_model c)) none) (cond t none y)
      go (Ok u) = sym (way.alone (counter_model c))
      go (Err why) = sym (way.empty y)
  counter_next (some a) y right c = rw (model_there way a y right)

module _ (y : Option (List ℕ)) where
  delivery_filed : (m : Option (List ℕ)) → Right m y → (d : List ℕ)
      → delivery_reply (Filing.file_delivery (holding m y) d).receipt
      ≡ of_model m (λ b. by_verdict (verdict b d) (mark_of b y d))
  unfolding Filing.file_delivery delivery_outcome
  delivery_filed none right d = rw cleared_holds
  delivery_filed (some b) right d = rw (delivery_by_verdict b y right d) (go (verdict b d) refl)
    where
      go : (o : Outcome) → verdict b d ≡ o
          → delivery_reply (delivery_by o (holding (some b) y) b d).receipt ≡ by_verdict o (mark_of b y d)
      go (Ok u) e = mark_reply_lem b d y right e
      go (Err why) e = refl

merge_of_pair : (m y : Option (List ℕ)) → Right m y → (d : List ℕ)
    → delivery_reply (merge_delivery (holding m y) d).receipt
    ≡ of_model m (λ b. of_delivery y (λ e. by_verdict (verdict b d) (mark_of b (some e) (merged b e d))))
unfolding merge_delivery merge_outcome with_model
merge_of_pair none y right d = rw cleared_holds
merge_of_pair (some b) none right d = rw (model_held_lem b none right)
merge_of_pair (some b) (some e) right d = rw (merge_by_verdict b e d right) (go (verdict b d) refl)
  where
    go : (o : Outcome) → verdict b d ≡ o →
        let x = merge_by o (holding (some b) (some e)) b d in
        delivery_reply x.receipt ≡ by_verdict o (mark_of b (some e) (merged b e d))
    go (Ok u) is =
        ap (λ x. delivery_reply x.receipt) (joined_is b e d right is)
        ∙ mark_reply_lem b (merged b e d) (some e) right (merged_accepted b e d right is)
    go (Err why) is = refl

upper_of_pair : (m y : Option (List ℕ)) → Right m y → (p z q : ℕ) → answer_reply (upper_in (holding m y) p z q)
    ≡ of_model m (λ b. of_delivery y (λ d. at_entry b p z q (value (uppers_of (states_of b) (symbols_of b) d p z q))))
unfolding upper_in with_model model_held
upper_of_pair none y right p z q = rw cleared_holds
upper_of_pair (some b) none right p z q = rw (held_length b right)
upper_of_pair (some b) (some d) right p z q = upper_reply_lem b d right p z q

lower_of_pair : (m y : Option (List ℕ)) → Right m y → (p z q : ℕ) → answer_reply (lower_in (holding m y) p z q)
    ≡ of_model m (λ b. of_delivery y (λ d. at_entry b p z q (lower_reply b d p z q)))
unfolding lower_in with_model model_held
lower_of_pair none y right p z q = rw cleared_holds
lower_of_pair (some b) none right p z q = rw (held_length b right)
lower_of_pair (some b) (some d) right p z q = lower_reply_lem b d right p z q

mean_of_pair : (m y : Option (List ℕ)) → Right m y → (p z : ℕ) → answer_reply (mean_in (holding m y) p z)
    ≡ of_model m (λ b. of_delivery y (λ d. at_row b p z (mean_reply b d p z)))
unfolding mean_in with_model model_held
mean_of_pair none y right p z = rw cleared_holds
mean_of_pair (some b) none right p z = rw (held_length b right)
mean_of_pair (some b) (some d) right p z = mean_reply_lem b d right p z

margin_of_pair : (m y : Option (List ℕ)) → Right m y → answer_reply (margin_in (holding m y))
    ≡ of_model m (λ b. of_delivery y (λ d. of_block has_lowers (shape_of (states_of b) (symbols_of b) d) (λ h. value (margin_of b d))))
unfolding margin_in with_model model_held
margin_of_pair none y right = rw cleared_holds
margin_of_pair (some b) none right = rw (held_length b right)
margin_of_pair (some b) (some d) right = margin_reply_lem b d right

live_of_pair : (m y : Option (List ℕ)) → Right m y → (p z q : ℕ) → answer_reply (live_in (holding m y) p z q)
    ≡ of_model m (λ b. at_entry b p z q (value (live_mark b p z q)))
unfolding live_in
live_of_pair none y right p z q = rw cleared_holds
live_of_pair (some b) y right p z q = live_reply b y right p z q

within_of_pair : (m y : Option (List ℕ)) → Right m y → (n p z q : ℕ) → answer_reply (within_in (holding m y) n p z q)
    ≡ of_model m (λ b. at_entry b p z q (to_three n (value (chance (rules_of b) n p z q))))
unfolding within_in
within_of_pair none y right n p z q = rw cleared_holds
within_of_pair (some b) y right n p z q = within_reply b y right n p z q

pub reply_of_pair : (x : Pair) → Right x.model x.delivery → (c : Call) → reply_of (register_of x) c ≡ plain_reply x c
unfolding reply_of plain_reply register_of
reply_of_pair x right clear = refl
reply_of_pair x right (file_model b) = model_filed as_held x.model x.delivery right b
reply_of_pair x right (file_counter c) = counter_filed as_held x.model x.delivery right c
reply_of_pair x right (file_delivery d) = delivery_filed x.delivery x.model right d
reply_of_pair x right (merge d) = merge_of_pair x.model x.delivery right d
reply_of_pair x right (upper p z q) = upper_of_pair x.model x.delivery right p z q
reply_of_pair x right (lower p z q) = lower_of_pair x.model x.delivery right p z q
reply_of_pair x right (mean_steps p z) = mean_of_pair x.model x.delivery right p z
reply_of_pair x right margin = margin_of_pair x.model x.delivery right
reply_of_pair x right (live p z q) = live_of_pair x.model x.delivery right p z q
reply_of_pair x right (within n p z q) = within_of_pair x.model x.delivery right n p z q

-- ---- the pair after a call

-- The pair after a call, and that a register which held the pair holds it then, with accepted files.
abbrev pub pair_after : Pair → Call → Pair
pair_after x c =
    record {
      model = model_after c (taken (plain_reply x c)) x.model;
      delivery = delivery_after c (taken (plain_reply x c)) x.model x.delivery;
    }

pub record Next (x : Pair) (c : Call) : Type 0 where
  pub held : after_call (register_of x) c ≡ register_of (pair_after x c)
  pub right : Right (pair_after x c).model (pair_after x c).delivery

module _ (y : Option (List ℕ)) where
  model_right_after : (m : Option (List ℕ)) → Right m y → (b : List ℕ) →
      let t = taken (if_none m (by_verdict (model_verdict b) accepted)) in
      Right (cond t (some b) m) (cond t none y)
  model_right_after none right b = go (model_verdict b) refl
    where
      go : (o : Outcome) → model_verdict b ≡ o → let t = taken (by_verdict o accepted) in Right (cond t (some b) none) (cond t none y)
      go (Ok u) e = e
      go (Err why) e = right
  model_right_after (some a) right b = right

  -- The model that an accepted counter file makes is accepted.
  counter_right_after : (m : Option (List ℕ)) → Right m y → (c : List ℕ) →
      let t = taken (if_none m (by_verdict (counter_verdict c) accepted)) in
      Right (cond t (some (counter_model c)) m) (cond t none y)
  counter_right_after none right c = go (counter_verdict c) refl
    where
      go : (o : Outcome) → counter_verdict c ≡ o → let t = taken (by_verdict o accepted) in Right (cond t (some (counter_model c)) none) (cond t none y)
      go (Ok u) e = made_accepted c e
      go (Err why) e = right
  counter_right_after (some a) right c = right

  delivery_after_lem : (m : Option (List ℕ)) → Right m y → (d : List ℕ) →
      let t = taken (of_model m (λ b. by_verdict (verdict b d) (mark_of b y d))) in
      ((Filing.file_delivery (holding m y) d).register ≡ holding m (cond t (some d) y)) × Right m (cond t (some d) y)
  unfolding Filing.file_delivery delivery_outcome
  delivery_after_lem none right d = (rw cleared_holds, right)
  delivery_after_lem (some b) right d = rw (delivery_by_verdict b y right d) (go (verdict b d) refl)
    where
      go : (o : Outcome) → verdict b d ≡ o →
          let t = taken (by_verdict o (mark_of b y d)) in
          ((delivery_by o (holding (some b) y) b d).register ≡ holding (some b) (cond t (some d) y)) × Right (some b) (cond t (some d) y)
      go (Ok u) e = rw (mark_taken b d y) (delivery_held b d y, e)
      go (Err why) e = (refl, right)

-- The merged file of two accepted deliveries is accepted.
merge_after_lem : (m y : Option (List ℕ)) → Right m y → (d : List ℕ) →
    let t = taken (of_model m (λ b. of_delivery y (λ e. by_verdict (verdict b d) (mark_of b (some e) (merged b e d))))) in
    ((merge_delivery (holding m y) d).register ≡ holding m (cond t (merged_with m y d) y)) × Right m (cond t (merged_with m y d) y)
unfolding merge_delivery merge_outcome with_model
merge_after_lem none y right d = (rw cleared_holds, right)
merge_after_lem (some b) none right d = (rw (model_held_lem b none right), right)
merge_after_lem (some b) (some e) right d = rw (merge_by_verdict b e d right) (go (verdict b d) refl)
  where
    go : (o : Outcome) → verdict b d ≡ o →
        let t = taken (by_verdict o (mark_of b (some e) (merged b e d))) in
        ((merge_by o (holding (some b) (some e)) b d).register ≡ holding (some b) (cond t (some (merged b e d)) (some e)))
        × Right (some b) (cond t (some (merged b e d)) (some e))
    go (Ok u) is =
        rw (mark_taken b (merged b e d) (some e))
        (ap (λ x. x.register) (joined_is b e d right is) ∙ delivery_held b (merged b e d) (some e), merged_accepted b e d right is)
    go (Err why) is = (refl, right)

pub next_of_pair : (x : Pair) → Right x.model x.delivery → (c : Call) → Next x c
unfolding after_call plain_reply register_of
next_of_pair x right clear = record { held = refl; right = refl }
next_of_pair x right (file_model b) =
    record { held = model_next as_held x.model x.delivery right b; right = model_right_after x.delivery x.model right b }
next_of_pair x right (file_counter c) =
    record { held = counter_next as_held x.model x.delivery right c; right = counter_right_after x.delivery x.model right c }
next_of_pair x right (file_delivery d) = let (held, again) = delivery_after_lem x.delivery x.model right d in record { held = held; right = again }
next_of_pair x right (merge d) = let (held, again) = merge_after_lem x.model x.delivery right d in record { held = held; right = again }
next_of_pair x right (upper p z q) = record { held = refl; right = right }
next_of_pair x right (lower p z q) = record { held = refl; right = right }
next_of_pair x right (mean_steps p z) = record { held = refl; right = right }
next_of_pair x right margin = record { held = refl; right = right }
next_of_pair x right (live p z q) = record { held = refl; right = right }
next_of_pair x right (within n p z q) = record { held = refl; right = right }
