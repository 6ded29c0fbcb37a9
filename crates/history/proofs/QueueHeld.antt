-- What the mission comes to for the queue, with nothing assumed: after its counter file and a delivery the counter file is held, and what is then shown is true of
-- first passage in the queue.
use mathlib.Core.List.{List, [], ◌∷◌, flat_map}
use mathlib.Core.Path.{◌≡◌, refl, ◌∙◌, subst}
use Rattle.walks.specs.Lists.{list_to, each, lists}
use Rattle.outcome.specs.Tests.{first}
use Rattle.words.specs.Words.{word_at}
use Rattle.walks.specs.Sums.{sign, sum, sum_to, least_to, all_to, greatest_to}
use Rattle.ppda.specs.Rules.{fits, over_row}
use Rattle.ppda.specs.Runs.{after, weigh, over_runs, over_runs_within}
use Rattle.ppda.specs.Chances.{chance_from}
use Rattle.ppda.specs.Equations.{f, mean_side}
use Rattle.ppda.specs.Live.{mark, is_live, alive}
use Rattle.ppda.specs.Margin.{share, share_at, margin}
use Rattle.model.specs.Records.{records_of, field, weight, states_of, symbols_of}
use Rattle.model.specs.Rules.{rule_of, rules_of, row_of, row_sum}
use Rattle.wellformed.specs.Verdict.{whole_records, range_at, unused_at, weight_at, ascends, record_tests, row_tests, rows_tests, model_tests, model_verdict}
use Rattle.delivery.specs.Records.{byte_of, value_at}
use Rattle.delivery.specs.Shapes.{means_from, records_in, long_as, lowers_or_means, shape_of}
use Rattle.delivery.specs.Numbers.{uppers_of, lowers_of, means_of}
use Rattle.layout.specs.Layout as layout
use Rattle.delivery.specs.Records.{is_due, in_range}
use Rattle.layout.specs.Layout.{upper_records, lower_records, mean_records, layout_tests}
use Rattle.walks.specs.Order.{each_entry, each_row}
use Rattle.inequalities.specs.Inequalities.{dead_test, upper_test, below_test, lower_test, mean_test, dead_tests, upper_tests, below_tests, lower_tests, mean_tests}
use Rattle.verdict.specs.Marks.{live_mark}
use Rattle.verdict.specs.Verdict as verdict
use Rattle.verdict.specs.Verdict.{number_tests, shaped_tests, delivery_tests}
use Rattle.certificate.specs.Margin.{margin_of}
use Rattle.model.specs.Made.{made_model}
use Rattle.onecounter.specs.Pushing.{rules_for}
use Rattle.counter.specs.Records.{moves_in, byte_in, weight_in, states_in}
use Rattle.counter.specs.Moves.{move_of, moves_of}
use Rattle.counter.specs.Verdict.{whole_moves, move_in_range, move_ascends, move_tests, state_sum, state_tests, counter_tests, counter_verdict}
use Rattle.counter.specs.Made.{counter_model}
use Rattle.counter.specs.Edges.{queue_file}
use Rattle.counter.proofs.Edges.{queue_said, queue_states}
use Rattle.onecounter.specs.Passage.{first_passage}
use Rattle.onecounter.specs.Edges.{queue}
use Rattle.onecounter.specs.Promised.{PassageUpper, PassageLower, PassageMean, PassageTail}
use Rattle.calls.specs.Calls.{Call, file_counter, file_delivery, upper, lower, mean_steps, within, Reply, accepted, new, value}
use Rattle.calls.specs.Calls as Calls
use Rattle.history.specs.Plain.{Event, pair_of, last_model, last_delivery, same_delivery, plain_reply}
use Rattle.history.specs.Run.{reply_to, history}
use Rattle.history.specs.Edges.{due, queue_delivery}
use Rattle.history.specs.Mission.{HoldsCounter}
use Rattle.history.proofs.Passages.{lower_said}
use Rattle.history.proofs.Mission.{mission}

-- Calls, latest first, and what they come to.
abbrev filed : List Call
filed = file_counter queue_file ∷ []

abbrev both : List Call
both = file_delivery queue_delivery ∷ filed

abbrev filed_past : List Event
filed_past = due (file_counter queue_file) accepted ∷ []

abbrev both_past : List Event
both_past = due (file_delivery queue_delivery) new ∷ filed_past

-- ---- the replies, computed on the plain pair

record Computed : Type 0 where
  counter : plain_reply (pair_of []) (file_counter queue_file) ≡ accepted
  delivery : plain_reply (pair_of filed_past) (file_delivery queue_delivery) ≡ new
  upper_asked : plain_reply (pair_of both_past) (upper 0 0 0) ≡ value 737280
  lower_asked : plain_reply (pair_of both_past) (lower 0 0 0) ≡ value 688128
  margin_asked : plain_reply (pair_of both_past) Calls.margin ≡ value 4968
  mean_asked : plain_reply (pair_of both_past) (mean_steps 0 0) ≡ value 2048
  short_asked : plain_reply (pair_of both_past) (within 3 0 0 0) ≡ value 162727720910848

computed : Computed
unfolding chance_from over_runs_within over_runs lists flat_map after weigh first each word_at sign sum sum_to least_to fits over_row f mean_side mark is_live alive share share_at margin records_of field weight greatest_to states_of symbols_of rule_of list_to rules_of row_of row_sum whole_records range_at unused_at weight_at ascends record_tests row_tests rows_tests model_tests model_verdict byte_of value_at means_from records_in long_as lowers_or_means shape_of uppers_of lowers_of means_of each_entry each_row is_due in_range layout.record_tests dead_test upper_test below_test lower_test mean_test upper_records lower_records mean_records dead_tests upper_tests below_tests lower_tests mean_tests layout_tests number_tests shaped_tests delivery_tests verdict.verdict margin_of live_mark all_to last_model last_delivery same_delivery plain_reply whole_moves move_in_range move_ascends move_tests state_sum state_tests counter_tests counter_verdict moves_in byte_in weight_in states_in move_of moves_of rules_for made_model counter_model
computed = record { counter = refl; delivery = refl; upper_asked = refl; lower_asked = refl; margin_asked = refl; mean_asked = refl; short_asked = refl }

-- ---- so does a register

counter_accepted : reply_to [] (file_counter queue_file) ≡ accepted
unfolding history
counter_accepted = (mission []).pair_shown (file_counter queue_file) ∙ computed.counter

filed_past_lem : history filed ≡ filed_past
unfolding history
filed_past_lem = rw counter_accepted

delivery_accepted : reply_to filed (file_delivery queue_delivery) ≡ new
delivery_accepted = (mission filed).pair_shown (file_delivery queue_delivery) ∙ rw filed_past_lem computed.delivery

both_past_lem : history both ≡ both_past
unfolding history
both_past_lem = rw (delivery_accepted, counter_accepted)

shown : (c : Call) (r : Reply) → plain_reply (pair_of both_past) c ≡ r → reply_to both c ≡ r
shown c r e = (mission both).pair_shown c ∙ rw both_past_lem e

-- ---- what is shown is true of the queue

pub queue_held : HoldsCounter both queue_file
unfolding last_model
queue_held = record { file = (((mission []).counters_taken queue_file).0 counter_accepted).1; held = rw both_past_lem refl }

pub queue_upper : PassageUpper queue 0 0 737280
queue_upper =
    subst (λ m. PassageUpper m 0 0 737280) queue_said
    ((mission both).passage_uppers_true queue_file 0 0 737280 queue_held (shown (upper 0 0 0) (value 737280) computed.upper_asked))

-- With the upper and the margin that are answered.
pub queue_lower : PassageLower queue 0 0 688128 737280 4968
queue_lower =
    lower_said both queue_held 688128 737280 4968 (mission both).passage_lowers_true (shown (lower 0 0 0) (value 688128) computed.lower_asked)
    (shown (upper 0 0 0) (value 737280) computed.upper_asked) (shown Calls.margin (value 4968) computed.margin_asked)

pub queue_mean : PassageMean queue 0 2048
queue_mean =
    subst (λ m. PassageMean m 0 2048) queue_said
    ((mission both).passage_means_true queue_file 0 2048 queue_held (shown (mean_steps 0 0) (value 2048) computed.mean_asked))

-- Within n moves all but 8/n are back at zero.
pub queue_tail : PassageTail queue 2 0 2048
queue_tail =
    rw (queue_said, queue_states) at
    ((mission both).passage_tails_true queue_file 0 2048 queue_held (shown (mean_steps 0 0) (value 2048) computed.mean_asked))

pub queue_short : 162727720910848 ≡ first_passage queue 3 0 0
queue_short =
    subst (λ m. 162727720910848 ≡ first_passage m 3 0 0) queue_said
    ((mission both).short_passages_true queue_file 3 0 0 162727720910848 queue_held (shown (within 3 0 0 0) (value 162727720910848) computed.short_asked))
