-- Mission point 3 where the held model is the one that a counter file makes (request A.2): what is shown is true of the runs of that model, and so of first
-- passage to zero in the machine that the file says.
use Prim.Native.Nat.{ℕ, ◌+◌, ◌-◌, ◌*◌, ◌^◌, ◌≤◌}
use mathlib.Core.List.{List, flat_map}
use mathlib.Core.Option.{Option, some}
use mathlib.Core.Path.{◌≡◌, sym, ap, subst, ◌∙◌}
use Rattle.walks.specs.Sums.{sum, sum_to}
use Rattle.walks.specs.Lists.{lists}
use Rattle.ppda.specs.Chances.{chance}
use Rattle.ppda.specs.Bounds.{UpperHolds, LowerHolds, MeanHolds, TailHolds}
use Rattle.model.specs.Records.{states_of}
use Rattle.model.specs.Rules.{rules_of}
use Rattle.onecounter.specs.Moves.{after_moves, weigh_moves}
use Rattle.onecounter.specs.Passage.{over_moves, over_moves_within, first_passage}
use Rattle.onecounter.specs.Promised.{PassageUpper, PassageLower, PassageMean}
use Rattle.onecounter.specs.Edges.{queue}
use Rattle.onecounter.proofs.Edges.{upper_bites, lower_bites, lower_bites_without_margin, mean_bites, no_figure}
use Rattle.counter.specs.Edges.{queue_file}
use Rattle.counter.proofs.Passage.{passage_of_file, passage_upper_of_file, passage_lower_of_file, passage_mean_of_file, passage_tail_of_file}
use Rattle.counter.proofs.Edges.{queue_said, level_file, level_said, level_states}
use Rattle.calls.specs.Calls.{Call, upper, lower, mean_steps, margin, within, Reply, value}
use Rattle.history.specs.Run.{reply_to}
use Rattle.history.specs.Mission.{HoldsCounter, PassageUpperShown, PassageLowerShown, PassageMeanShown, PassageTailShown, PassageShortShown}
use Rattle.history.proofs.Shown.{upper_shown, lower_shown, mean_shown, tail_shown, short_shown}

-- The model of which a number is shown is the one that is held.
one_model : {m : Option (List ℕ)} {a b : List ℕ} → m ≡ some a → m ≡ some b → a ≡ b
one_model e f = cc

pub passage_upper_shown : (cs : List Call) → PassageUpperShown cs
passage_upper_shown cs c u v a at e =
    let (b, held, holds) = upper_shown cs u 0 v a e in
    passage_upper_of_file c at.file u v a (subst (λ m. UpperHolds (rules_of m) u 0 v a) (one_model held at.held) holds)

pub passage_lower_shown : (cs : List Call) → PassageLowerShown cs
passage_lower_shown cs c u v l at e =
    let x = lower_shown cs u 0 v l e in
    record {
      upper_answered = x.upper_answered;
      margin_answered = x.margin_answered;
      upper_asked = x.upper_asked;
      margin_asked = x.margin_asked;
      holds =
          passage_lower_of_file c at.file u v l x.upper_answered x.margin_answered
          (subst (λ m. LowerHolds (rules_of m) u 0 v l x.upper_answered x.margin_answered) (one_model x.held at.held) x.holds);
    }

pub passage_mean_shown : (cs : List Call) → PassageMeanShown cs
passage_mean_shown cs c u r at e =
    let (b, held, holds) = mean_shown cs u 0 r e in
    passage_mean_of_file c at.file u r (subst (λ m. MeanHolds (rules_of m) u 0 r) (one_model held at.held) holds)

pub passage_tail_shown : (cs : List Call) → PassageTailShown cs
passage_tail_shown cs c u r at e =
    let (b, held, holds) = tail_shown cs u 0 r e in
    passage_tail_of_file c at.file u r (subst (λ m. TailHolds (rules_of m) (states_of m) u 0 r) (one_model held at.held) holds)

pub passage_short_shown : (cs : List Call) → PassageShortShown cs
passage_short_shown cs c n u v x at e =
    let (b, held, same, few) = short_shown cs n u 0 v x e in
    same ∙ ap (λ m. chance (rules_of m) n u 0 v) (one_model held at.held) ∙ sym (passage_of_file c at.file n u v)

-- ---- what the promises say of the queue, where it is held

-- Two questions that are answered alike have the same number.
one_number : {r : Reply} {a b : ℕ} → r ≡ value a → r ≡ value b → a ≡ b
one_number e f = cc

module _ (cs : List Call) (at : HoldsCounter cs queue_file) where
  -- The calm queue first reaches zero in the calm phase within 3 moves with the chance 0.578125, and any upper that is shown is at least that.
  pub passage_upper_bites : (a : ℕ) → PassageUpperShown cs → reply_to cs (upper 0 0 0) ≡ value a → 606208 ≤ a
  passage_upper_bites a shown asked = upper_bites a (subst (λ m. PassageUpper m 0 0 a) queue_said (shown queue_file 0 0 a at asked))

  pub passage_short_bites : (x : ℕ) → PassageShortShown cs → reply_to cs (within 3 0 0 0) ≡ value x → x ≡ 162727720910848
  unfolding first_passage over_moves_within over_moves sum_to sum lists flat_map after_moves weigh_moves
  passage_short_bites x shown asked = shown queue_file 3 0 0 x at asked ∙ ap (λ m. first_passage m 3 0 0) queue_said

  -- Its mean of moves counted to 3 is 1.875, and any figure that is shown is at least that.
  pub passage_mean_bites : (r : ℕ) → PassageMeanShown cs → reply_to cs (mean_steps 0 0) ≡ value r → 480 ≤ r
  passage_mean_bites r shown asked = mean_bites r (subst (λ m. PassageMean m 0 r) queue_said (shown queue_file 0 r at asked))

  -- A lower, with the upper and the margin that are shown: a margin of 1/2, and one shown as 0.
  pub lower_said : (l a b : ℕ) → PassageLowerShown cs → reply_to cs (lower 0 0 0) ≡ value l → reply_to cs (upper 0 0 0) ≡ value a
      → reply_to cs margin ≡ value b → PassageLower queue 0 0 l a b
  lower_said l a b shown asked bound least =
      let x = shown queue_file 0 0 l at asked in
      rw (one_number x.upper_asked bound, one_number x.margin_asked least, queue_said) at x.holds

  pub passage_lower_bites : (l a : ℕ) → PassageLowerShown cs → reply_to cs (lower 0 0 0) ≡ value l → reply_to cs (upper 0 0 0) ≡ value a
      → reply_to cs margin ≡ value 524288 → 2 * l ≤ 1048576 + a
  passage_lower_bites l a shown asked bound least = lower_bites l a (lower_said l a 524288 shown asked bound least)

  pub passage_lower_bites_without_margin : (l a : ℕ) → PassageLowerShown cs → reply_to cs (lower 0 0 0) ≡ value l → reply_to cs (upper 0 0 0) ≡ value a
      → reply_to cs margin ≡ value 0 → l * 2 ^ 57 ≤ 2 ^ 76 + (2 ^ 57 - 1) * a
  passage_lower_bites_without_margin l a shown asked bound least = lower_bites_without_margin l a (lower_said l a 0 shown asked bound least)

-- Where the count never changes, no mean steps are shown: some n would refute them.
pub passage_tail_bites : (cs : List Call) (r : ℕ) → PassageTailShown cs → HoldsCounter cs level_file → reply_to cs (mean_steps 0 0) ≡ value r → ⊥
passage_tail_bites cs r shown at asked = no_figure r (rw (level_said, level_states) at (shown level_file 0 r at asked))
