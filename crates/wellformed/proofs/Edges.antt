-- The table of neighbouring records holds, by computation.
use mathlib.Core.List.{map}
use mathlib.Core.Path.{◌≡◌, refl}
use Rattle.walks.specs.Lists.{each}
use Rattle.walks.specs.Sums.{sum_to, greatest_to}
use Rattle.words.specs.Words.{word_at}
use Rattle.outcome.specs.Tests.{first}
use Rattle.model.specs.Records.{records_of, field, weight, states_of, symbols_of}
use Rattle.model.specs.Rules.{row_of, row_sum}
use Rattle.wellformed.specs.Verdict.{whole_records, range_at, unused_at, weight_at, ascends, record_tests, row_tests, rows_tests, model_tests, model_verdict}
use Rattle.wellformed.specs.Edges.{ordered, as_file, turned, twice, row_wrong, not_ascending}

pub order_answered : (map as_file ordered ≡ map row_wrong ordered) × (map turned ordered ≡ map not_ascending ordered) × (map twice ordered ≡ map not_ascending ordered)
unfolding model_verdict model_tests first each record_tests row_tests rows_tests row_sum row_of whole_records range_at unused_at weight_at ascends states_of symbols_of records_of field weight word_at sum_to greatest_to
order_answered = (refl, refl, refl)
