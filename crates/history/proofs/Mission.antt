-- The mission, for every list of calls: one theorem, which gathers those of the points.
use mathlib.Core.List.{List}
use Rattle.register.proofs.Marks.{marked}
use Rattle.calls.specs.Calls.{Call}
use Rattle.history.specs.Run.{register_after}
use Rattle.history.specs.Mission.{Mission}
use Rattle.history.proofs.Refusals.{refused_keeps}
use Rattle.history.proofs.Plain.{holds_pair, as_plain_pair, model_taken, counter_taken, counter_held, delivery_taken}
use Rattle.history.proofs.Known.{known_held, held_known}
use Rattle.history.proofs.Merges.{merge_taken, merge_held, merge_known, itself_known, merge_named}
use Rattle.history.proofs.Sharpens.{merge_sharpens}
use Rattle.history.proofs.Replies.{replies_as_plain}
use Rattle.history.proofs.Named.{number_listed, model_named, counter_named, delivery_named}
use Rattle.history.proofs.Shown.{upper_shown, lower_shown, mean_shown, tail_shown, live_shown, short_shown, short_under_upper}
use Rattle.history.proofs.Passages.{passage_upper_shown, passage_lower_shown, passage_mean_shown, passage_tail_shown, passage_short_shown}

pub mission : (cs : List Call) → Mission cs
mission cs = record {
  numbers_listed = number_listed cs;
  refusals_keep = refused_keeps (register_after cs);
  models_taken = model_taken cs;
  counters_taken = counter_taken cs;
  counters_held = counter_held cs;
  deliveries_taken = delivery_taken cs;
  deliveries_marked = marked (register_after cs);
  known_held = known_held cs;
  held_known = held_known cs;
  merges_taken = merge_taken cs;
  merges_held = merge_held cs;
  merges_known = merge_known cs;
  itself_known = itself_known cs;
  models_named = model_named cs;
  counters_named = counter_named cs;
  deliveries_named = delivery_named cs;
  merges_named = merge_named cs;
  pair_held = holds_pair cs;
  pair_shown = as_plain_pair cs;
  pair_shown_in_time = replies_as_plain cs;
  uppers_true = upper_shown cs;
  lowers_true = lower_shown cs;
  means_true = mean_shown cs;
  live_marks_true = live_shown cs;
  merges_sharpen = merge_sharpens cs;
  short_chances_true = short_shown cs;
  short_chances_under_uppers = short_under_upper cs;
  tails_true = tail_shown cs;
  passage_uppers_true = passage_upper_shown cs;
  passage_lowers_true = passage_lower_shown cs;
  passage_means_true = passage_mean_shown cs;
  passage_tails_true = passage_tail_shown cs;
  short_passages_true = passage_short_shown cs;
}
