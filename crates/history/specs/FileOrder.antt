-- The register as it was before request A.6: it holds uppers and lowers in the order of files, where today's holds them by exit. This page has what differs, with the
-- bodies of that time under names that end in ByFile: of `numbers_held`, `margin_in` and `numbers_merged`, of `delivery_by`, `file_delivery`, `merge_by`, `merge_delivery`,
-- `upper_in` and `lower_in`, in which what they cite is written out, of `after_call`, `reply_of`, `register_after` and `replies`. No code runs it; the page `ByExit` says that
-- every answer equals that under this order.
use Rattle.std.specs.Prelude.{ℕ, true, cond, ◌&&◌, List, [], ◌∷◌, Err, Ok, min, max}
use Rattle.walks.specs.Order.{entries_in, rows_in}
use Rattle.ppda.specs.Equations.{entries}
use Rattle.ppda.specs.Margin.{margin}
use Rattle.model.specs.Records.{states_of, symbols_of}
use Rattle.model.specs.Rules.{rules_of}
use Rattle.delivery.specs.declared.shape.Shape.{Shape}
use Rattle.delivery.specs.Shapes.{has_lowers, has_means}
use Rattle.delivery.specs.Numbers.{uppers_of, lowers_of, means_of}
use Rattle.delivery.specs.Merged.{merged_shape}
use Rattle.certificate.specs.Margin.{margin_of}
use Rattle.held.specs.declared.Numbers.{Numbers}
use Rattle.held.specs.Held.{listed, listed_rows, if_standing, holds_model, is_held, lowers_stand, shape_held}
use Rattle.held.specs.Places.{has_entry, entry_value}
use Rattle.merging.specs.Numbers.{kept_to, means_to}
use Rattle.filing.specs.Outcomes.{file_of, delivery_outcome, merge_outcome}
use Rattle.calls.specs.Answers.{Answer}
use Rattle.calls.specs.Answers.{answered, model_reply, delivery_reply, answer_reply}
use Rattle.calls.specs.Calls as Calls
use Rattle.calls.specs.Calls.{Call, Reply}
use Rattle.register.specs.declared.Register.{Register}
use Rattle.register.specs.declared.Received.{Received}
use Rattle.register.specs.Filing.{cleared, turned_away, shape_for, holding_numbers, file_model}
use Rattle.register.specs.Questions.{mean_in, margin_in, live_in, within_in}
use Rattle.counter.specs.Filing.{file_counter}
use Rattle.outcome.specs.Outcomes.{Outcome, Accepted, Refused}

-- ---- what was held of a delivery

-- The numbers of the delivery d, of shape h, for the model b.
unfoldable pub numbers_by_file : List ℕ → Shape → List ℕ → Numbers
numbers_by_file b h d =
    record {
      uppers = listed (states_of b) (symbols_of b) (uppers_of (states_of b) (symbols_of b) d);
      lowers = if_standing (has_lowers h) (listed (states_of b) (symbols_of b) (lowers_of (states_of b) (symbols_of b) d));
      means = if_standing (has_means h) (listed_rows (states_of b) (symbols_of b) (means_of (states_of b) (symbols_of b) h d));
      margin = cond (has_lowers h) (margin_of b d) 0;
    }

-- The margin of uppers u that are listed in the order of files, for the model b.
abbrev pub margin_by_file : List ℕ → List ℕ → ℕ
margin_by_file b u = margin (rules_of b) (states_of b) (symbols_of b) (entries (states_of b) (symbols_of b) u)

-- The numbers `former`, of a delivery of shape h, merged with the numbers `second` of one of shape k, for the model b.
unfoldable pub merged_by_file : List ℕ → Shape → Numbers → Shape → Numbers → Numbers
merged_by_file b h former k second =
    record {
      uppers = kept_to min (entries_in (states_of b) (symbols_of b)) former.uppers second.uppers;
      lowers = if_standing (has_lowers h && has_lowers k) (kept_to max (entries_in (states_of b) (symbols_of b)) former.lowers second.lowers);
      means = means_to (rows_in (states_of b) (symbols_of b)) (has_means h) (has_means k) former.means second.means;
      margin = cond (has_lowers h && has_lowers k)
          (margin_by_file b (kept_to min (entries_in (states_of b) (symbols_of b)) former.uppers second.uppers)) 0;
    }

-- ---- the calls that put numbers into these lists or read them there

-- Filing the delivery d for the held model b, by the outcome.
abbrev pub delivery_by_file : Outcome → Register → List ℕ → List ℕ → Received
delivery_by_file (Ok u) r b d = holding_numbers r b (shape_for b d) (numbers_by_file b (shape_for b d) d)
delivery_by_file (Err why) r b d = turned_away r (Err why)

unfoldable pub file_delivery_by_file : Register → List ℕ → Received
file_delivery_by_file r d = delivery_by_file (delivery_outcome r.model d) r (file_of r.model) d

-- Merging with the delivery d for the held model b, by the outcome.
abbrev pub merge_by_file : Outcome → Register → List ℕ → List ℕ → Received
merge_by_file (Ok u) r b d =
    holding_numbers r b (merged_shape (shape_held r.delivery) (shape_for b d))
    (merged_by_file b (shape_held r.delivery) r.numbers (shape_for b d) (numbers_by_file b (shape_for b d) d))
merge_by_file (Err why) r b d = turned_away r (Err why)

unfoldable pub merge_delivery_by_file : Register → List ℕ → Received
merge_delivery_by_file r d = merge_by_file (merge_outcome r.model r.delivery d) r (file_of r.model) d

-- An entry's upper, and its lower.
unfoldable pub upper_by_file : Register → ℕ → ℕ → ℕ → Answer
upper_by_file r p z q =
    answered (holds_model r.model.length) (is_held r.delivery) (has_entry r.model.states r.model.symbols p z q) true
    (entry_value r.model.states r.model.symbols r.numbers.uppers p z q)

unfoldable pub lower_by_file : Register → ℕ → ℕ → ℕ → Answer
lower_by_file r p z q =
    answered (holds_model r.model.length) (is_held r.delivery) (has_entry r.model.states r.model.symbols p z q) (lowers_stand r.delivery)
    (entry_value r.model.states r.model.symbols r.numbers.lowers p z q)

-- ---- any list of calls; what is not named above is as today

-- The register after a call, and the reply.
unfoldable pub after_by_file : Register → Call → Register
after_by_file r Calls.clear = cleared
after_by_file r (Calls.file_model b) = (file_model r b).register
after_by_file r (Calls.file_counter c) = (file_counter r c).register
after_by_file r (Calls.file_delivery d) = (file_delivery_by_file r d).register
after_by_file r (Calls.merge d) = (merge_delivery_by_file r d).register
after_by_file r (Calls.upper p z q) = r
after_by_file r (Calls.lower p z q) = r
after_by_file r (Calls.mean_steps p z) = r
after_by_file r Calls.margin = r
after_by_file r (Calls.live p z q) = r
after_by_file r (Calls.within n p z q) = r

unfoldable pub reply_by_file : Register → Call → Reply
reply_by_file r Calls.clear = Calls.cleared
reply_by_file r (Calls.file_model b) = model_reply (file_model r b).outcome
reply_by_file r (Calls.file_counter c) = model_reply (file_counter r c).outcome
reply_by_file r (Calls.file_delivery d) = delivery_reply (file_delivery_by_file r d).receipt
reply_by_file r (Calls.merge d) = delivery_reply (merge_delivery_by_file r d).receipt
reply_by_file r (Calls.upper p z q) = answer_reply (upper_by_file r p z q)
reply_by_file r (Calls.lower p z q) = answer_reply (lower_by_file r p z q)
reply_by_file r (Calls.mean_steps p z) = answer_reply (mean_in r p z)
reply_by_file r Calls.margin = answer_reply (margin_in r)
reply_by_file r (Calls.live p z q) = answer_reply (live_in r p z q)
reply_by_file r (Calls.within n p z q) = answer_reply (within_in r n p z q)

-- The register after a list of calls, latest first, from an empty one; and its replies to calls in the order of time.
unfoldable pub register_by_file : List Call → Register
register_by_file [] = cleared
register_by_file (c ∷ cs) = after_by_file (register_by_file cs) c

unfoldable pub replies_by_file : Register → List Call → List Reply
replies_by_file r [] = []
replies_by_file r (c ∷ cs) = reply_by_file r c ∷ replies_by_file (after_by_file r c) cs
