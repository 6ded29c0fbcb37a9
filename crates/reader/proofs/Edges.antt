-- The printouts are those of the files, computed on the plain pair's replies; and what a reader learns from their bytes alone.
use Prim.Native.Nat.{ℕ}
use native.Mathlib.Omega.{arith}
use mathlib.Core.List.{List, [], ◌∷◌}
use mathlib.Core.Logic.{inl, inr}
use mathlib.Core.Path.{◌≡◌, refl, ◌∙◌}
use lib.IntN.{negsuc}
use Rattle.walks.specs.Lists.{list_to, each}
use Rattle.walks.specs.Sums.{sign, sum, sum_to, least_to, all_to, greatest_to}
use Rattle.walks.specs.Order.{each_entry, each_row}
use Rattle.words.specs.Words.{word_at}
use Rattle.outcome.specs.declared.Reason.TheVariants.{UpperTooSmall}
use Rattle.outcome.specs.Tests.{first}
use Rattle.ppda.specs.Rules.{fits, over_row}
use Rattle.ppda.specs.Equations.{f, mean_side}
use Rattle.ppda.specs.Live.{mark, is_live, alive}
use Rattle.ppda.specs.Margin.{share, share_at, margin}
use Rattle.ppda.specs.Bounds.{UpperHolds, LowerHolds, MeanHolds, TailHolds}
use Rattle.model.specs.Records.{records_of, field, weight, states_of, symbols_of}
use Rattle.model.specs.Rules.{rule_of, rules_of, row_of, row_sum}
use Rattle.model.specs.W.{w_file}
use Rattle.wellformed.specs.Verdict.{whole_records, range_at, unused_at, weight_at, ascends, record_tests, row_tests, rows_tests, model_tests, model_verdict}
use Rattle.delivery.specs.Records.{byte_of, value_at, is_due, in_range}
use Rattle.delivery.specs.Shapes.{means_from, records_in, long_as, lowers_or_means, shape_of}
use Rattle.delivery.specs.Numbers.{uppers_of, lowers_of, means_of}
use Rattle.layout.specs.Layout as layout
use Rattle.layout.specs.Layout.{upper_records, lower_records, mean_records, layout_tests}
use Rattle.inequalities.specs.Inequalities.{dead_test, upper_test, below_test, lower_test, mean_test, dead_tests, upper_tests, below_tests, lower_tests, mean_tests}
use Rattle.verdict.specs.Marks.{live_mark}
use Rattle.verdict.specs.Verdict as verdict
use Rattle.verdict.specs.Verdict.{number_tests, shaped_tests, delivery_tests}
use Rattle.certificate.specs.Margin.{margin_of}
use Rattle.certificate.specs.Edges.{w_delivery}
use Rattle.shares.specs.Gap.{gap_at}
use Rattle.history.specs.Plain.{same_delivery, plain_reply}
use Rattle.history.specs.Edges.{uppers_file}
use Rattle.text.specs.Decimal.{digits_to, decimal}
use Rattle.text.specs.Reading.{pieces, words_in, number_after, number_in}
use Rattle.lines.specs.Lines.{chance_word, margin_word, steps_word}
use Rattle.report.specs.Printed.{live_entries, chance_of, chance_lines, steps_lines, lines_by, accepted_lines, printed}
use Rattle.reader.specs.Reader.{LineIn}
use Rattle.reader.specs.Edges.{w_printout, uppers_printout, refused_printout}
use Rattle.reader.proofs.Filed.{both, refused_plainly, printed_plainly}
use Rattle.reader.proofs.Reader.{reader}
use Rattle.outcome.specs.Outcomes.{Accepted, Refused}

-- ---- computed

verdicts : (model_verdict w_file ≡ Accepted) × (verdict.verdict w_file (w_delivery 524288 512) ≡ Accepted) × (verdict.verdict w_file uppers_file ≡ Accepted)
    × (verdict.verdict w_file (w_delivery 466033 512) ≡ Refused UpperTooSmall 1 (negsuc 30064771071))
unfolding first each word_at sign sum sum_to least_to fits over_row f mean_side mark is_live alive share share_at margin records_of field weight greatest_to states_of symbols_of rule_of list_to rules_of row_of row_sum whole_records range_at unused_at weight_at ascends record_tests row_tests rows_tests model_tests model_verdict byte_of value_at means_from records_in long_as lowers_or_means shape_of uppers_of lowers_of means_of each_entry each_row is_due in_range layout.record_tests dead_test upper_test below_test lower_test mean_test upper_records lower_records mean_records dead_tests upper_tests below_tests lower_tests mean_tests layout_tests number_tests shaped_tests delivery_tests verdict.verdict margin_of live_mark all_to same_delivery plain_reply
verdicts = (refl, refl, refl, refl)

lines : (accepted_lines (plain_reply (both w_file (w_delivery 524288 512))) w_file (w_delivery 524288 512) ≡ w_printout)
    × (accepted_lines (plain_reply (both w_file uppers_file)) w_file uppers_file ≡ uppers_printout)
unfolding first each word_at sign sum sum_to least_to fits over_row f mean_side mark is_live alive share share_at margin records_of field weight greatest_to states_of symbols_of rule_of list_to rules_of row_of row_sum whole_records range_at unused_at weight_at ascends record_tests row_tests rows_tests model_tests model_verdict byte_of value_at means_from records_in long_as lowers_or_means shape_of uppers_of lowers_of means_of each_entry each_row is_due in_range layout.record_tests dead_test upper_test below_test lower_test mean_test upper_records lower_records mean_records dead_tests upper_tests below_tests lower_tests mean_tests layout_tests number_tests shaped_tests delivery_tests verdict.verdict margin_of live_mark all_to same_delivery plain_reply digits_to decimal gap_at live_entries chance_of chance_lines steps_lines lines_by
lines = (refl, refl)

-- ---- the printouts

pub w_printed : printed w_file (w_delivery 524288 512) ≡ w_printout
w_printed = printed_plainly w_file (w_delivery 524288 512) verdicts.1 ∙ lines.0

pub uppers_printed : printed w_file uppers_file ≡ uppers_printout
uppers_printed = printed_plainly w_file uppers_file verdicts.2 ∙ lines.1

pub refused_printed : printed w_file (w_delivery 466033 512) ≡ refused_printout
unfolding digits_to decimal
refused_printed = refused_plainly w_file (w_delivery 466033 512) verdicts.0 verdicts.3

-- ---- what a reader of W's printout learns: its lines stand there

chance_stands : LineIn w_file (w_delivery 524288 512)
    (chance_word ∷ (48 ∷ []) ∷ (48 ∷ []) ∷ (49 ∷ []) ∷ (51 ∷ 57 ∷ 51 ∷ 50 ∷ 49 ∷ 54 ∷ []) ∷ (53 ∷ 50 ∷ 52 ∷ 50 ∷ 56 ∷ 56 ∷ []) ∷ (50 ∷ 50 ∷ 53 ∷ 49 ∷ 55 ∷ 57 ∷ 57 ∷ 56 ∷ 49 ∷ 51 ∷ 54 ∷ 56 ∷ 53 ∷ 50 ∷ 52 ∷ 56 ∷ []) ∷ [])
unfolding words_in pieces
chance_stands = rw w_printed (inr (inr (inr (inl refl))))

margin_stands : LineIn w_file (w_delivery 524288 512) (margin_word ∷ (52 ∷ 53 ∷ 56 ∷ 55 ∷ 53 ∷ []) ∷ [])
unfolding words_in pieces
margin_stands = rw w_printed (inr (inl refl))

steps_stand : LineIn w_file (w_delivery 524288 512) (steps_word ∷ (48 ∷ []) ∷ (48 ∷ []) ∷ (53 ∷ 49 ∷ 50 ∷ []) ∷ [])
unfolding words_in pieces
steps_stand = rw w_printed (inr (inr (inr (inr (inr (inl refl))))))

pub upper_learnt : UpperHolds (rules_of w_file) 0 0 1 524288
unfolding number_in number_after
upper_learnt = ((reader w_file (w_delivery 524288 512)).chances _ _ _ _ _ _ chance_stands).upper

pub lower_learnt : LowerHolds (rules_of w_file) 0 0 1 393216 524288 45875
unfolding number_in number_after
lower_learnt =
    ((reader w_file (w_delivery 524288 512)).chances _ _ _ _ _ _ chance_stands).lower (λ e. let z : ◌≡◌ {A = ℕ} 51 45 = cc in omega arith) _ margin_stands

pub mean_learnt : MeanHolds (rules_of w_file) 0 0 512
unfolding number_in number_after
mean_learnt = (reader w_file (w_delivery 524288 512)).steps _ _ _ steps_stand

last_steps_stand : LineIn w_file (w_delivery 524288 512) (steps_word ∷ (49 ∷ []) ∷ (48 ∷ []) ∷ (50 ∷ 53 ∷ 54 ∷ []) ∷ [])
unfolding words_in pieces
last_steps_stand = rw w_printed (inr (inr (inr (inr (inr (inr (inl refl)))))))

pub tail_learnt : TailHolds (rules_of w_file) (states_of w_file) 0 0 512 × TailHolds (rules_of w_file) (states_of w_file) 1 0 256
unfolding number_in number_after
tail_learnt = ((reader w_file (w_delivery 524288 512)).tails _ _ _ steps_stand, (reader w_file (w_delivery 524288 512)).tails _ _ _ last_steps_stand)
