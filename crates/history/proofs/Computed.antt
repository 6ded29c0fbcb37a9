-- The tables of exchanges, computed on the plain pair.
use mathlib.Core.List.{[], flat_map}
use mathlib.Core.Path.{refl}
use Rattle.walks.specs.Lists.{list_to, each, lists}
use Rattle.outcome.specs.Tests.{first}
use Rattle.words.specs.Words.{word_at}
use Rattle.walks.specs.Sums.{sign, sum, sum_to, least_to, all_to, greatest_to}
use Rattle.ppda.specs.Rules.{fits, over_row}
use Rattle.ppda.specs.Runs.{after, weigh, over_runs, over_runs_within}
use Rattle.ppda.specs.Chances.{chance_from}
use Rattle.ppda.specs.Equations.{f, mean_side}
use Rattle.ppda.specs.Live.{mark, is_live, alive}
use Rattle.ppda.specs.Margin.{share, share_at, margin}
use Rattle.model.specs.Records.{records_of, field, weight, states_of, symbols_of}
use Rattle.model.specs.Rules.{rule_of, rules_of, row_of, row_sum}
use Rattle.wellformed.specs.Verdict.{whole_records, range_at, unused_at, weight_at, ascends, record_tests, row_tests, rows_tests, model_tests, model_verdict}
use Rattle.delivery.specs.Records.{byte_of, value_at}
use Rattle.delivery.specs.Shapes.{means_from, records_in, long_as, lowers_or_means, shape_of}
use Rattle.delivery.specs.Numbers.{uppers_of, lowers_of, means_of}
use Rattle.delivery.specs.Made.{entry_records, row_records, made_delivery}
use Rattle.delivery.specs.Merged.{merged_of, merged}
use Rattle.layout.specs.Layout as layout
use Rattle.delivery.specs.Records.{is_due, in_range}
use Rattle.layout.specs.Layout.{upper_records, lower_records, mean_records, layout_tests}
use Rattle.walks.specs.Order.{each_entry, each_row}
use Rattle.inequalities.specs.Inequalities.{dead_test, upper_test, below_test, lower_test, mean_test, dead_tests, upper_tests, below_tests, lower_tests, mean_tests}
use Rattle.verdict.specs.Marks.{live_mark}
use Rattle.verdict.specs.Verdict as verdict
use Rattle.verdict.specs.Verdict.{number_tests, shaped_tests, delivery_tests}
use Rattle.certificate.specs.Margin.{margin_of}
use Rattle.model.specs.Made.{made_model}
use Rattle.onecounter.specs.Pushing.{rules_for}
use Rattle.counter.specs.Records.{moves_in, byte_in, weight_in, states_in}
use Rattle.counter.specs.Moves.{move_of, moves_of}
use Rattle.counter.specs.Verdict.{whole_moves, move_in_range, move_ascends, move_tests, state_sum, state_tests, counter_tests, counter_verdict}
use Rattle.counter.specs.Made.{counter_model}
use Rattle.history.specs.Plain.{last_model, last_delivery, same_delivery, plain_reply}
use Rattle.history.specs.Edges.{AllReplied, AllTables, exchanges}

pub computed : AllTables (AllReplied []) exchanges
unfolding chance_from over_runs_within over_runs lists flat_map after weigh first each word_at sign sum sum_to least_to fits over_row f mean_side mark is_live alive share share_at margin records_of field weight greatest_to states_of symbols_of rule_of list_to rules_of row_of row_sum whole_records range_at unused_at weight_at ascends record_tests row_tests rows_tests model_tests model_verdict byte_of value_at means_from records_in long_as lowers_or_means shape_of uppers_of lowers_of means_of each_entry each_row is_due in_range layout.record_tests dead_test upper_test below_test lower_test mean_test upper_records lower_records mean_records dead_tests upper_tests below_tests lower_tests mean_tests layout_tests number_tests shaped_tests delivery_tests verdict.verdict margin_of live_mark all_to last_model last_delivery merged merged_of made_delivery entry_records row_records same_delivery plain_reply whole_moves move_in_range move_ascends move_tests state_sum state_tests counter_tests counter_verdict moves_in byte_in weight_in states_in move_of moves_of rules_for made_model counter_model
computed = ((refl, (refl, (refl, (refl, (refl, (refl, (refl, (refl, (refl, (refl, (refl, tt))))))))))), ((refl, (refl, (refl, (refl, (refl, (refl, (refl, (refl, (refl, (refl, (refl, (refl, (refl, tt))))))))))))), ((refl, (refl, (refl, (refl, (refl, (refl, (refl, (refl, (refl, (refl, (refl, (refl, (refl, (refl, (refl, (refl, (refl, (refl, tt)))))))))))))))))), ((refl, (refl, (refl, (refl, (refl, (refl, (refl, (refl, tt)))))))), ((refl, (refl, (refl, (refl, (refl, (refl, (refl, (refl, (refl, tt))))))))), ((refl, (refl, (refl, (refl, (refl, (refl, (refl, (refl, (refl, (refl, (refl, (refl, (refl, (refl, (refl, (refl, tt)))))))))))))))), ((refl, (refl, (refl, (refl, (refl, (refl, (refl, (refl, (refl, (refl, (refl, (refl, (refl, (refl, (refl, (refl, (refl, (refl, (refl, (refl, (refl, tt))))))))))))))))))))), ((refl, (refl, (refl, (refl, (refl, (refl, (refl, (refl, (refl, (refl, (refl, (refl, (refl, (refl, (refl, (refl, (refl, (refl, (refl, (refl, (refl, (refl, (refl, (refl, (refl, (refl, (refl, (refl, (refl, (refl, (refl, (refl, tt)))))))))))))))))))))))))))))))), ((refl, (refl, (refl, (refl, (refl, (refl, (refl, (refl, (refl, (refl, tt)))))))))), ((refl, (refl, (refl, (refl, (refl, (refl, (refl, (refl, (refl, (refl, (refl, (refl, (refl, (refl, (refl, (refl, (refl, (refl, (refl, (refl, (refl, (refl, (refl, (refl, (refl, (refl, (refl, (refl, (refl, (refl, (refl, (refl, (refl, (refl, tt)))))))))))))))))))))))))))))))))), ((refl, (refl, (refl, (refl, (refl, (refl, (refl, (refl, (refl, (refl, (refl, (refl, (refl, (refl, (refl, (refl, (refl, (refl, (refl, (refl, (refl, (refl, (refl, tt))))))))))))))))))))))), ((refl, (refl, (refl, (refl, (refl, (refl, (refl, (refl, (refl, (refl, (refl, (refl, (refl, (refl, (refl, (refl, (refl, (refl, (refl, (refl, (refl, (refl, (refl, (refl, (refl, (refl, (refl, (refl, (refl, (refl, (refl, (refl, (refl, (refl, (refl, (refl, (refl, (refl, (refl, (refl, (refl, (refl, tt)))))))))))))))))))))))))))))))))))))))))), tt))))))))))))
