-- Every starred edge of document 01 holds, bad input gets the answer that is due, and the bytes of the tables say what document 01 has.
use Prim.Native.Nat.{ℕ, ◌<◌}
use mathlib.Core.Bool.{false}
use mathlib.Core.List.{List, [], ◌∷◌, ◌++◌, map}
use lib.Dec.{lit<}
use mathlib.Core.Path.{◌≡◌, refl}
use Rattle.walks.specs.Lists.{list_to, each}
use Rattle.outcome.specs.Tests.{first}
use Rattle.words.specs.Words.{word_at}
use Rattle.walks.specs.Sums.{sign, sum, sum_to, least_to, greatest_to}
use Rattle.ppda.specs.Rules.{fits, over_row, rule, one, two}
use Rattle.ppda.specs.W.{w}
use Rattle.ppda.proofs.TailEdges.{forever}
use Rattle.ppda.specs.Equations.{f, mean_side}
use Rattle.ppda.specs.Live.{mark, is_live, alive, Live}
use Rattle.ppda.specs.Margin.{share, share_at, margin, kept, whole}
use Rattle.model.specs.Records.{records_of, field, weight, states_of, symbols_of}
use Rattle.model.specs.Rules.{rule_of, rules_of, row_of, row_sum}
use Rattle.wellformed.specs.Verdict.{whole_records, range_at, unused_at, weight_at, ascends, record_tests, row_tests, rows_tests, model_tests, model_verdict}
use Rattle.model.specs.Made.{model_record, made_model}
use Rattle.model.specs.W.{w_file}
use Rattle.delivery.specs.Records.{byte_of, value_at}
use Rattle.delivery.specs.Shapes.{means_from, records_in, long_as, lowers_or_means, shape_of}
use Rattle.delivery.specs.Numbers.{uppers_of, lowers_of, means_of}
use Rattle.layout.specs.Layout as layout
use Rattle.verdict.specs.Verdict as verdict
use Rattle.verdict.specs.Marks.{live_mark}
use Rattle.delivery.specs.Records.{is_due, in_range}
use Rattle.layout.specs.Layout.{upper_records, lower_records, mean_records, layout_tests}
use Rattle.walks.specs.Order.{each_entry, each_row}
use Rattle.inequalities.specs.Inequalities.{dead_test, upper_test, below_test, lower_test, mean_test, dead_tests, upper_tests, below_tests, lower_tests, mean_tests}
use Rattle.verdict.specs.Verdict.{number_tests, shaped_tests, delivery_tests}
use Rattle.shares.specs.Gap.{gap_at}
use Rattle.certificate.specs.Margin.{margin_of, shown_margin}
use Rattle.certificate.specs.Edges.{one_rule, z_to_z, AllHold, w_delivery, edges, margins, answer_to, due_to, bad_inputs, fail_twice, places_and_ends, greatest, last_upper, fourth_bytes, longest, file_order, pushes, least_shortfalls}
use Rattle.model.proofs.Accepted.{is_model_lem}
use Rattle.wellformed.proofs.Accepted.{model_accepted}
use Rattle.verdict.proofs.Accepted.{dead_exactly}
use Rattle.outcome.specs.Outcomes.{Accepted}

-- An entry of an accepted model is dead where its mark says so.
dead : (b : List ℕ) (p z q : ℕ) → model_verdict b ≡ Accepted → p < states_of b → z < symbols_of b → q < states_of b
    → is_live (alive (rules_of b) (states_of b) (symbols_of b) p z q) ≡ false → Live (rules_of b) p z q → ⊥
dead b p z q a hp hz hq = (dead_exactly (is_model_lem b ((model_accepted b).0 a)) hp hz hq).0

-- The whole table, by computation.
pub edges_hold : AllHold edges
unfolding first each word_at sign sum sum_to least_to fits over_row f mean_side mark is_live alive share share_at margin records_of field weight greatest_to states_of symbols_of rule_of list_to rules_of row_of row_sum whole_records range_at unused_at weight_at ascends record_tests row_tests rows_tests model_tests model_verdict byte_of value_at means_from records_in long_as lowers_or_means shape_of uppers_of lowers_of means_of each_entry each_row is_due in_range layout.record_tests dead_test upper_test below_test lower_test mean_test upper_records lower_records mean_records dead_tests upper_tests below_tests lower_tests mean_tests layout_tests number_tests shaped_tests delivery_tests verdict.verdict margin_of shown_margin
edges_hold = (
  refl,
  (
    refl,
    (
      dead w_file 1 0 0 refl (lit< tt) (lit< tt) (lit< tt) refl,
      (
        refl,
        (
          refl,
          (
            refl,
            (
              refl,
              (
                refl,
                (
                  refl,
                  (
                    refl,
                    (
                      refl,
                      (
                        refl,
                        (dead z_to_z 0 0 0 refl (lit< tt) (lit< tt) (lit< tt) refl, tt),
                      ),
                    ),
                  ),
                ),
              ),
            ),
          ),
        ),
      ),
    ),
  ),
)

-- So do the margins.
pub margins_hold : AllHold margins
unfolding first each word_at sign sum sum_to least_to fits over_row f mean_side mark is_live alive share share_at margin records_of field weight greatest_to states_of symbols_of rule_of list_to rules_of row_of row_sum whole_records range_at unused_at weight_at ascends record_tests row_tests rows_tests model_tests model_verdict byte_of value_at means_from records_in long_as lowers_or_means shape_of uppers_of lowers_of means_of each_entry each_row is_due in_range layout.record_tests dead_test upper_test below_test lower_test mean_test upper_records lower_records mean_records dead_tests upper_tests below_tests lower_tests mean_tests layout_tests number_tests shaped_tests delivery_tests verdict.verdict margin_of shown_margin
margins_hold = (refl, (refl, (refl, (refl, tt))))

-- Bad input gets the answer that is due.
pub bad_inputs_answered : map answer_to bad_inputs ≡ map due_to bad_inputs
unfolding first each word_at sign sum sum_to least_to fits over_row f mean_side mark is_live alive share share_at margin records_of field weight greatest_to states_of symbols_of rule_of list_to rules_of row_of row_sum whole_records range_at unused_at weight_at ascends record_tests row_tests rows_tests model_tests model_verdict byte_of value_at means_from records_in long_as lowers_or_means shape_of uppers_of lowers_of means_of each_entry each_row is_due in_range layout.record_tests dead_test upper_test below_test lower_test mean_test upper_records lower_records mean_records dead_tests upper_tests below_tests lower_tests mean_tests layout_tests number_tests shaped_tests delivery_tests verdict.verdict margin_of shown_margin
bad_inputs_answered = refl

-- So do files that fail twice.
pub fail_twice_answered : map answer_to fail_twice ≡ map due_to fail_twice
unfolding first each word_at sign sum sum_to least_to fits over_row f mean_side mark is_live alive share share_at margin records_of field weight greatest_to states_of symbols_of rule_of list_to rules_of row_of row_sum whole_records range_at unused_at weight_at ascends record_tests row_tests rows_tests model_tests model_verdict byte_of value_at means_from records_in long_as lowers_or_means shape_of uppers_of lowers_of means_of each_entry each_row is_due in_range layout.record_tests dead_test upper_test below_test lower_test mean_test upper_records lower_records mean_records dead_tests upper_tests below_tests lower_tests mean_tests layout_tests number_tests shaped_tests delivery_tests verdict.verdict margin_of shown_margin
fail_twice_answered = refl

-- So do the ends of ranges and later places.
pub places_and_ends_answered : map answer_to places_and_ends ≡ map due_to places_and_ends
unfolding first each word_at sign sum sum_to least_to fits over_row f mean_side mark is_live alive share share_at margin records_of field weight greatest_to states_of symbols_of rule_of list_to rules_of row_of row_sum whole_records range_at unused_at weight_at ascends record_tests row_tests rows_tests model_tests model_verdict byte_of value_at means_from records_in long_as lowers_or_means shape_of uppers_of lowers_of means_of each_entry each_row is_due in_range layout.record_tests dead_test upper_test below_test lower_test mean_test upper_records lower_records mean_records dead_tests upper_tests below_tests lower_tests mean_tests layout_tests number_tests shaped_tests delivery_tests verdict.verdict margin_of shown_margin
places_and_ends_answered = refl

-- So does the greatest record.
pub greatest_answered : map answer_to greatest ≡ map due_to greatest
unfolding first each word_at sign sum sum_to least_to fits over_row f mean_side mark is_live alive share share_at margin records_of field weight greatest_to states_of symbols_of rule_of list_to rules_of row_of row_sum whole_records range_at unused_at weight_at ascends record_tests row_tests rows_tests model_tests model_verdict byte_of value_at means_from records_in long_as lowers_or_means shape_of uppers_of lowers_of means_of each_entry each_row is_due in_range layout.record_tests dead_test upper_test below_test lower_test mean_test upper_records lower_records mean_records dead_tests upper_tests below_tests lower_tests mean_tests layout_tests number_tests shaped_tests delivery_tests verdict.verdict margin_of shown_margin
greatest_answered = refl

-- So does the last upper of two states and two symbols.
pub last_upper_answered : map answer_to last_upper ≡ map due_to last_upper
unfolding first each word_at sign sum sum_to least_to fits over_row f mean_side mark is_live alive share share_at margin records_of field weight greatest_to states_of symbols_of rule_of list_to rules_of row_of row_sum whole_records range_at unused_at weight_at ascends record_tests row_tests rows_tests model_tests model_verdict byte_of value_at means_from records_in long_as lowers_or_means shape_of uppers_of lowers_of means_of each_entry each_row is_due in_range layout.record_tests dead_test upper_test below_test lower_test mean_test upper_records lower_records mean_records dead_tests upper_tests below_tests lower_tests mean_tests layout_tests number_tests shaped_tests delivery_tests verdict.verdict margin_of shown_margin
last_upper_answered = refl

-- So do numbers with a fourth byte.
pub fourth_bytes_answered : map answer_to fourth_bytes ≡ map due_to fourth_bytes
unfolding first each word_at sign sum sum_to least_to fits over_row f mean_side mark is_live alive share share_at margin records_of field weight greatest_to states_of symbols_of rule_of list_to rules_of row_of row_sum whole_records range_at unused_at weight_at ascends record_tests row_tests rows_tests model_tests model_verdict byte_of value_at means_from records_in long_as lowers_or_means shape_of uppers_of lowers_of means_of each_entry each_row is_due in_range layout.record_tests dead_test upper_test below_test lower_test mean_test upper_records lower_records mean_records dead_tests upper_tests below_tests lower_tests mean_tests layout_tests number_tests shaped_tests delivery_tests verdict.verdict margin_of shown_margin
fourth_bytes_answered = refl

-- So do the longest files.
pub longest_answered : map answer_to longest ≡ map due_to longest
unfolding first each word_at sign sum sum_to least_to fits over_row f mean_side mark is_live alive share share_at margin records_of field weight greatest_to states_of symbols_of rule_of list_to rules_of row_of row_sum whole_records range_at unused_at weight_at ascends record_tests row_tests rows_tests model_tests model_verdict byte_of value_at means_from records_in long_as lowers_or_means shape_of uppers_of lowers_of means_of each_entry each_row is_due in_range layout.record_tests dead_test upper_test below_test lower_test mean_test upper_records lower_records mean_records dead_tests upper_tests below_tests lower_tests mean_tests layout_tests number_tests shaped_tests delivery_tests verdict.verdict margin_of shown_margin
longest_answered = refl

-- So do failures in file order, and further shapes.
pub file_order_answered : map answer_to file_order ≡ map due_to file_order
unfolding first each word_at sign sum sum_to least_to fits over_row f mean_side mark is_live alive share share_at margin records_of field weight greatest_to states_of symbols_of rule_of list_to rules_of row_of row_sum whole_records range_at unused_at weight_at ascends record_tests row_tests rows_tests model_tests model_verdict byte_of value_at means_from records_in long_as lowers_or_means shape_of uppers_of lowers_of means_of each_entry each_row is_due in_range layout.record_tests dead_test upper_test below_test lower_test mean_test upper_records lower_records mean_records dead_tests upper_tests below_tests lower_tests mean_tests layout_tests number_tests shaped_tests delivery_tests verdict.verdict margin_of shown_margin
file_order_answered = refl

-- So do numbers that just pass, and those next to them.
pub pushes_answered : map answer_to pushes ≡ map due_to pushes
unfolding first each word_at sign sum sum_to least_to fits over_row f mean_side mark is_live alive share share_at margin records_of field weight greatest_to states_of symbols_of rule_of list_to rules_of row_of row_sum whole_records range_at unused_at weight_at ascends record_tests row_tests rows_tests model_tests model_verdict byte_of value_at means_from records_in long_as lowers_or_means shape_of uppers_of lowers_of means_of each_entry each_row is_due in_range layout.record_tests dead_test upper_test below_test lower_test mean_test upper_records lower_records mean_records dead_tests upper_tests below_tests lower_tests mean_tests layout_tests number_tests shaped_tests delivery_tests verdict.verdict margin_of shown_margin
pushes_answered = refl

pub least_shortfalls_answered : map answer_to least_shortfalls ≡ map due_to least_shortfalls
unfolding first each word_at sign sum sum_to least_to fits over_row f mean_side mark is_live alive share share_at margin records_of field weight greatest_to states_of symbols_of rule_of list_to rules_of row_of row_sum whole_records range_at unused_at weight_at ascends record_tests row_tests rows_tests model_tests model_verdict byte_of value_at means_from records_in long_as lowers_or_means shape_of uppers_of lowers_of means_of each_entry each_row is_due in_range layout.record_tests dead_test upper_test below_test lower_test mean_test upper_records lower_records mean_records dead_tests upper_tests below_tests lower_tests mean_tests layout_tests number_tests shaped_tests delivery_tests verdict.verdict margin_of shown_margin
least_shortfalls_answered = refl

-- The records of two rules, with different symbols pushed.
pub rules_said_lem : rules_of (model_record 1 2 3 2 4 5 65536 ++ model_record 1 2 3 1 4 0 7) ≡ rule 1 2 3 (two 4 5) 65536 ∷ rule 1 2 3 (one 4) 7 ∷ []
unfolding rules_of list_to rule_of records_of field weight word_at
rules_said_lem = refl

-- The forty bytes of W say the rules of W.
pub w_said : rules_of w_file ≡ w
unfolding rules_of list_to rule_of records_of field weight word_at
w_said = refl

-- The ten bytes of Z to Z say its rule, of one state.
pub z_to_z_said : rules_of z_to_z ≡ forever
unfolding rules_of list_to rule_of records_of field weight word_at
z_to_z_said = refl

pub z_to_z_states : states_of z_to_z ≡ 1
unfolding states_of greatest_to records_of field
z_to_z_states = refl

-- And they are the bytes made of them.
pub w_made : made_model w ≡ w_file
unfolding made_model
w_made = refl

-- The delivery of the table has document 01's numbers.
pub w_numbers : list_to (value_at (w_delivery 524288 512)) 10
    ≡ 655360 ∷ 524288 ∷ 0 ∷ 1179648 ∷ 524288 ∷ 393216 ∷ 0 ∷ 1048576 ∷ 512 ∷ 256 ∷ []
unfolding list_to value_at word_at
w_numbers = refl

-- The one entry of a model is marked live where the stack can be emptied, and nothing of a refused model is.
pub marks_shown : (live_mark (one_rule 65536) 0 0 0 ≡ 1) × (live_mark z_to_z 0 0 0 ≡ 0) × (live_mark (one_rule 65535) 0 0 0 ≡ 0)
unfolding first each word_at sign sum sum_to least_to fits over_row f mean_side mark is_live alive share share_at margin records_of field weight greatest_to states_of symbols_of rule_of list_to rules_of row_of row_sum whole_records range_at unused_at weight_at ascends record_tests row_tests rows_tests model_tests model_verdict byte_of value_at means_from records_in long_as lowers_or_means shape_of uppers_of lowers_of means_of each_entry each_row is_due in_range layout.record_tests dead_test upper_test below_test lower_test mean_test upper_records lower_records mean_records dead_tests upper_tests below_tests lower_tests mean_tests layout_tests number_tests shaped_tests delivery_tests live_mark
marks_shown = (refl, refl, refl)

-- 1 − m in mission point 3 for W's margin, and for a margin of 0, where m is 1/2^57.
pub margins_kept : (kept 45875 ≡ 1002701) × (whole 45875 ≡ 1048576) × (kept 0 ≡ 144115188075855871) × (whole 0 ≡ 144115188075855872)
unfolding kept
margins_kept = (refl, refl, refl, refl)

-- u − f(u) of W's live entries, as document 01 has them printed.
pub w_gaps : (gap_at w_file 2 1 (w_delivery 524288 512) 0 0 0 ≡ 1970324836974592)
    × (gap_at w_file 2 1 (w_delivery 524288 512) 0 0 1 ≡ 2251799813685248)
    × (gap_at w_file 2 1 (w_delivery 524288 512) 1 0 1 ≡ 9007199254740992)
unfolding gap_at uppers_of value_at word_at f over_row sum sum_to fits rules_of list_to rule_of records_of field weight
w_gaps = (refl, refl, refl)
