-- The mission's points 1 to 3 for a register after any list of calls, latest first. The record `Mission` gathers them, in the mission's order,
-- and theorem `mission` proves it for every list.
use Rattle.std.specs.Prelude.{ℕ, ◌≤◌, min, true, List, [], ◌∷◌, ◌↔◌, ◌≡◌, ℤ}
use Rattle.std.proofs.Math.Option.{none, some}
use Rattle.outcome.specs.Reasons.{number_of}
use Rattle.outcome.specs.Tests.{Test, FirstFailure}
use Rattle.walks.specs.Sums.{In}
use Rattle.words.specs.Words.{Bytes}
use Rattle.ppda.specs.Chances.{chance}
use Rattle.ppda.specs.Live.{is_live, Live}
use Rattle.ppda.specs.Bounds.{AtMostUpper, UpperHolds, LowerHolds, MeanHolds, TailHolds}
use Rattle.model.specs.Records.{states_of}
use Rattle.model.specs.Rules.{rules_of}
use Rattle.model.specs.Accepted.{ModelFile}
use Rattle.wellformed.specs.Verdict.{model_tests}
use Rattle.delivery.specs.Merged.{merged}
use Rattle.verdict.specs.Verdict.{delivery_tests}
use Rattle.verdict.specs.Accepted.{RightFiles}
use Rattle.certificate.specs.Margin.{margin_of}
use Rattle.onecounter.specs.Passage.{first_passage}
use Rattle.onecounter.specs.Promised.{PassageUpper, PassageLower, PassageMean, PassageTail}
use Rattle.counter.specs.Records.{states_in}
use Rattle.counter.specs.Moves.{moves_of}
use Rattle.counter.specs.Verdict.{counter_tests}
use Rattle.counter.specs.Accepted.{CounterFile}
use Rattle.counter.specs.Made.{counter_model}
use Rattle.register.specs.declared.Register.{Register}
use Rattle.register.specs.Filing.{cleared, Marked}
use Rattle.calls.specs.Calls.{Call, clear, file_model, file_counter, file_delivery, merge, upper, lower, mean_steps, margin, live, within, accepted, known, value, refused, taken}
use Rattle.history.specs.Plain.{last_model, last_delivery, pair_of, plain_reply, plain_replies}
use Rattle.history.specs.Run.{after_call, reply_of, register_after, reply_to, history, replies, register_of}

-- ---- point 1

-- The numbers that document 01 and the requests list for a call: those of the register in their order, then those of the file.
abbrev pub listed : Call → List ℕ
listed clear = []
listed (file_model b) = 41 ∷ 10 ∷ 11 ∷ 12 ∷ 13 ∷ 14 ∷ 15 ∷ []
listed (file_counter c) = 41 ∷ 46 ∷ 47 ∷ 48 ∷ []
listed (file_delivery d) = 40 ∷ 20 ∷ 21 ∷ 22 ∷ 23 ∷ 24 ∷ 25 ∷ 26 ∷ 27 ∷ []
listed (merge d) = 40 ∷ 42 ∷ 20 ∷ 21 ∷ 22 ∷ 23 ∷ 24 ∷ 25 ∷ 26 ∷ 27 ∷ []
listed (upper p z q) = 40 ∷ 42 ∷ 44 ∷ []
listed (lower p z q) = 40 ∷ 42 ∷ 44 ∷ 43 ∷ []
listed (mean_steps p z) = 40 ∷ 42 ∷ 44 ∷ 43 ∷ []
listed margin = 40 ∷ 42 ∷ 43 ∷ []
listed (live p z q) = 40 ∷ 44 ∷ []
listed (within n p z q) = 40 ∷ 44 ∷ 45 ∷ []

-- "Bad input gets its listed number": a refusal has a number of the call's list. (Which one is said under point 2.)
abbrev pub NumberListed : List Call → Type 0
NumberListed cs = (c : Call) (number place : ℕ) (shortfall : ℤ) → reply_to cs c ≡ refused number place shortfall → In number (listed c)

-- "A refused call changes nothing", for any value of a register.
abbrev pub RefusedKeeps : Register → Call → Type 0
RefusedKeeps r c = (number place : ℕ) (shortfall : ℤ) → reply_of r c ≡ refused number place shortfall → after_call r c ≡ r

-- ---- point 2

-- The model that is held: the one last accepted since the last clearing.
abbrev pub Holds : List Call → List ℕ → Type 0
Holds cs b = last_model (history cs) ≡ some b

-- "Acceptance is exactly document 01's rules": a model is accepted exactly where none is held and the rules accept its file, and a delivery where
-- they accept it for the held model.
abbrev pub ModelTaken : List Call → Type 0
ModelTaken cs = (b : List ℕ) → (reply_to cs (file_model b) ≡ accepted) ↔ ((last_model (history cs) ≡ none) × ModelFile b)

abbrev pub DeliveryTaken : List Call → Type 0
DeliveryTaken cs = (d : List ℕ) → (taken (reply_to cs (file_delivery d)) ≡ true) ↔ ((b : List ℕ) × Holds cs b × RightFiles b d)

-- The delivery that is held: the one last accepted for the held model.
abbrev pub HoldsDelivery : List Call → List ℕ → Type 0
HoldsDelivery cs e = last_delivery (history cs) ≡ some e

-- Request A.3: a delivery that is marked known is the very file that is held, byte by byte, and the file that is held is known. (Numbers of a file are bytes,
-- which a list of numbers need not be.)
abbrev pub KnownHeld : List Call → Type 0
KnownHeld cs = (d : List ℕ) → reply_to cs (file_delivery d) ≡ known → (e : List ℕ) × HoldsDelivery cs e × (Bytes e → Bytes d → e ≡ d)

abbrev pub HeldKnown : List Call → Type 0
HeldKnown cs = (d : List ℕ) → HoldsDelivery cs d → reply_to cs (file_delivery d) ≡ known

-- A counter file is accepted exactly where no model is held and request A.2's rules accept it.
abbrev pub CounterTaken : List Call → Type 0
CounterTaken cs = (c : List ℕ) → (reply_to cs (file_counter c) ≡ accepted) ↔ ((last_model (history cs) ≡ none) × CounterFile c)

-- The model that is held is the one that the counter file c makes, whichever call filed it.
pub record HoldsCounter (cs : List Call) (c : List ℕ) : Type 0 where
  pub file : CounterFile c
  pub held : Holds cs (counter_model c)

-- After an accepted counter file the model that it makes is held, and that is a model file: nothing more can fail.
abbrev pub CounterHeld : List Call → Type 0
CounterHeld cs = (c : List ℕ) → reply_to cs (file_counter c) ≡ accepted → HoldsCounter (file_counter c ∷ cs) c × ModelFile (counter_model c)

-- Request A.5: a merge is accepted exactly where a model and a delivery are held and document 01's rules accept the second delivery for the held model.
abbrev pub MergeTaken : List Call → Type 0
MergeTaken cs =
    (d : List ℕ) → (taken (reply_to cs (merge d)) ≡ true) ↔ ((b : List ℕ) × (e : List ℕ) × Holds cs b × HoldsDelivery cs e × RightFiles b d)

-- After an accepted merge the merged file is held, and that is a right one: nothing more can fail.
abbrev pub MergeHeld : List Call → Type 0
MergeHeld cs =
    (b e d : List ℕ) → Holds cs b → HoldsDelivery cs e → taken (reply_to cs (merge d)) ≡ true
    → HoldsDelivery (merge d ∷ cs) (merged b e d) × RightFiles b (merged b e d)

-- A merge is marked known where the merged file is the very file that was held, byte by byte, and no other; merging the held file with itself is known. (Numbers of
-- the held file are bytes, which those of a list need not be; those of the merged one are.)
abbrev pub MergeKnown : List Call → Type 0
MergeKnown cs =
    (b e d : List ℕ) → Holds cs b → HoldsDelivery cs e → Bytes e → taken (reply_to cs (merge d)) ≡ true
    → (reply_to cs (merge d) ≡ known) ↔ (merged b e d ≡ e)

abbrev pub ItselfKnown : List Call → Type 0
ItselfKnown cs = (d : List ℕ) → HoldsDelivery cs d → reply_to cs (merge d) ≡ known

-- A refusal that names the first of the tests that fails: its reason's number, its place and its shortfall.
pub record Names (ts : List Test) (number place : ℕ) (shortfall : ℤ) : Type 0 where
  pub test : Test
  pub failure : FirstFailure ts test
  pub number_named : number_of test.reason ≡ number
  pub place_named : test.place ≡ place
  pub shortfall_named : test.shortfall ≡ shortfall

-- "Otherwise the first failure in the fixed order is named": of a model and of a counter file where no model is held, and of a delivery for the held model.
abbrev pub ModelNamed : List Call → Type 0
ModelNamed cs =
    (b : List ℕ) (number place : ℕ) (shortfall : ℤ) → last_model (history cs) ≡ none
    → (reply_to cs (file_model b) ≡ refused number place shortfall) ↔ Names (model_tests b) number place shortfall

abbrev pub CounterNamed : List Call → Type 0
CounterNamed cs =
    (c : List ℕ) (number place : ℕ) (shortfall : ℤ) → last_model (history cs) ≡ none
    → (reply_to cs (file_counter c) ≡ refused number place shortfall) ↔ Names (counter_tests c) number place shortfall

abbrev pub DeliveryNamed : List Call → Type 0
DeliveryNamed cs =
    (b d : List ℕ) (number place : ℕ) (shortfall : ℤ) → Holds cs b
    → (reply_to cs (file_delivery d) ≡ refused number place shortfall) ↔ Names (delivery_tests b d) number place shortfall

-- The same of a merge, where a model and a delivery are held: the tests of the second delivery alone.
abbrev pub MergeNamed : List Call → Type 0
MergeNamed cs =
    (b e d : List ℕ) (number place : ℕ) (shortfall : ℤ) → Holds cs b → HoldsDelivery cs e
    → (reply_to cs (merge d) ≡ refused number place shortfall) ↔ Names (delivery_tests b d) number place shortfall

-- "The register shows the files last accepted since it was cleared and no others": it holds the plain pair and nothing else, and replies to every
-- call as that pair would.
abbrev pub HoldsPair : List Call → Type 0
HoldsPair cs = register_after cs ≡ register_of (pair_of (history cs))

abbrev pub AsPlainPair : List Call → Type 0
AsPlainPair cs = (c : Call) → reply_to cs c ≡ plain_reply (pair_of (history cs)) c

-- The same for calls in the order of time, from an empty register.
abbrev pub RepliesAsPlain : List Call → Type 0
RepliesAsPlain cs = replies cleared cs ≡ plain_replies [] cs

-- ---- point 3, for what the questions answer: the inequalities of crate ppda (`Bounds`), of the model that is held

abbrev pub UpperShown : List Call → Type 0
UpperShown cs = (p z q u : ℕ) → reply_to cs (upper p z q) ≡ value u → (b : List ℕ) × Holds cs b × UpperHolds (rules_of b) p z q u

-- For a lower, with the upper and the margin that the questions on them answer.
pub record LowerHeld (cs : List Call) (p z q l : ℕ) : Type 0 where
  pub model : List ℕ
  pub upper_answered : ℕ
  pub margin_answered : ℕ
  pub held : Holds cs model
  pub upper_asked : reply_to cs (upper p z q) ≡ value upper_answered
  pub margin_asked : reply_to cs margin ≡ value margin_answered
  pub holds : LowerHolds (rules_of model) p z q l upper_answered margin_answered

abbrev pub LowerShown : List Call → Type 0
LowerShown cs = (p z q l : ℕ) → reply_to cs (lower p z q) ≡ value l → LowerHeld cs p z q l

abbrev pub MeanShown : List Call → Type 0
MeanShown cs = (p z r : ℕ) → reply_to cs (mean_steps p z) ≡ value r → (b : List ℕ) × Holds cs b × MeanHolds (rules_of b) p z r

-- Request A.7: where mean steps r are shown of a row, for every n the chances of having returned within n steps, summed over all exits, come to at least 1 − r/n.
abbrev pub TailShown : List Call → Type 0
TailShown cs = (p z r : ℕ) → reply_to cs (mean_steps p z) ≡ value r → (b : List ℕ) × Holds cs b × TailHolds (rules_of b) (states_of b) p z r

-- Request A.5: of the uppers, lowers and mean steps that are shown before a merge with d and after it, none is less sharp after it; and a margin that is shown both
-- times is at least the smaller of the one before and that of d. (It may be smaller than the one before; lowers and margin are gone where d has no lowers.)
pub record MergeSharpens (cs : List Call) (d : List ℕ) : Type 0 where
  pub uppers : (p z q u w : ℕ) → reply_to cs (upper p z q) ≡ value u → reply_to (merge d ∷ cs) (upper p z q) ≡ value w → w ≤ u
  pub lowers : (p z q l k : ℕ) → reply_to cs (lower p z q) ≡ value l → reply_to (merge d ∷ cs) (lower p z q) ≡ value k → l ≤ k
  pub means : (p z r t : ℕ) → reply_to cs (mean_steps p z) ≡ value r → reply_to (merge d ∷ cs) (mean_steps p z) ≡ value t → t ≤ r
  pub margins : (b : List ℕ) (m n : ℕ) → Holds cs b → reply_to cs margin ≡ value m → reply_to (merge d ∷ cs) margin ≡ value n → min m (margin_of b d) ≤ n

-- The live mark says live where some run empties the stack in q; it is 1 or 0.
abbrev pub LiveShown : List Call → Type 0
LiveShown cs =
    (p z q a : ℕ) → reply_to cs (live p z q) ≡ value a
    → (b : List ℕ) × Holds cs b × ((is_live a ≡ true) ↔ Live (rules_of b) p z q) × (a ≤ 1)

-- The chance shown of a short run is the run chance ("The results equal the run chances that the third mission point is about", request A.1), for n up to 3; and it is at
-- most the upper that is shown of the entry.
abbrev pub ShortShown : List Call → Type 0
ShortShown cs =
    (n p z q c : ℕ) → reply_to cs (within n p z q) ≡ value c → (b : List ℕ) × Holds cs b × (c ≡ chance (rules_of b) n p z q) × (n ≤ 3)

abbrev pub ShortUnderUpper : List Call → Type 0
ShortUnderUpper cs =
    (n p z q c u : ℕ) → reply_to cs (within n p z q) ≡ value c → reply_to cs (upper p z q) ≡ value u → AtMostUpper n c u

-- ---- point 3, where the held model is the one that a counter file makes (request A.2): uppers, lowers and short chances shown of the entry
-- (u, 0, v), and mean steps of the row (u, 0) with their tail (request A.7), are true of first passage to zero, in v, from u at the count 1, by the runs of the machine that the file says

abbrev pub PassageUpperShown : List Call → Type 0
PassageUpperShown cs = (c : List ℕ) (u v a : ℕ) → HoldsCounter cs c → reply_to cs (upper u 0 v) ≡ value a → PassageUpper (moves_of c) u v a

-- For a lower, with the upper and the margin that the questions on them answer.
pub record PassageLowerHeld (cs : List Call) (c : List ℕ) (u v l : ℕ) : Type 0 where
  pub upper_answered : ℕ
  pub margin_answered : ℕ
  pub upper_asked : reply_to cs (upper u 0 v) ≡ value upper_answered
  pub margin_asked : reply_to cs margin ≡ value margin_answered
  pub holds : PassageLower (moves_of c) u v l upper_answered margin_answered

abbrev pub PassageLowerShown : List Call → Type 0
PassageLowerShown cs = (c : List ℕ) (u v l : ℕ) → HoldsCounter cs c → reply_to cs (lower u 0 v) ≡ value l → PassageLowerHeld cs c u v l

abbrev pub PassageMeanShown : List Call → Type 0
PassageMeanShown cs = (c : List ℕ) (u r : ℕ) → HoldsCounter cs c → reply_to cs (mean_steps u 0) ≡ value r → PassageMean (moves_of c) u r

abbrev pub PassageTailShown : List Call → Type 0
PassageTailShown cs = (c : List ℕ) (u r : ℕ) → HoldsCounter cs c → reply_to cs (mean_steps u 0) ≡ value r → PassageTail (moves_of c) (states_in c) u r

abbrev pub PassageShortShown : List Call → Type 0
PassageShortShown cs =
    (c : List ℕ) (n u v x : ℕ) → HoldsCounter cs c → reply_to cs (within n u 0 v) ≡ value x → x ≡ first_passage (moves_of c) n u v

-- ---- the mission, point by point

pub record Mission (cs : List Call) : Type 0 where
  -- 1. "It ends on every pair of files and every sequence of calls": replies and registers are defined for every list of calls, and each call's
  -- contract equates a function that is proved to return with them. "Bad input gets its listed number; a refused call changes nothing."
  pub numbers_listed : NumberListed cs
  pub refusals_keep : (c : Call) → RefusedKeeps (register_after cs) c
  -- 2. "Acceptance is exactly document 01's rules, in exact arithmetic", of counter files request A.2's, and then the model that is made is held; an accepted
  -- delivery is marked, a refused one is not; the file that is held is known, and no other (request A.3);
  pub models_taken : ModelTaken cs
  pub counters_taken : CounterTaken cs
  pub counters_held : CounterHeld cs
  pub deliveries_taken : DeliveryTaken cs
  pub deliveries_marked : (d : List ℕ) → Marked (register_after cs) d
  pub known_held : KnownHeld cs
  pub held_known : HeldKnown cs
  -- a merge is accepted where a delivery is held and the second one is accepted; then the merged file is held, and known where it is the one held before (request A.5);
  pub merges_taken : MergeTaken cs
  pub merges_held : MergeHeld cs
  pub merges_known : MergeKnown cs
  pub itself_known : ItselfKnown cs
  -- "otherwise the first failure in the fixed order is named."
  pub models_named : ModelNamed cs
  pub counters_named : CounterNamed cs
  pub deliveries_named : DeliveryNamed cs
  pub merges_named : MergeNamed cs
  -- "The register shows the files last accepted since it was cleared and no others."
  pub pair_held : HoldsPair cs
  pub pair_shown : AsPlainPair cs
  pub pair_shown_in_time : RepliesAsPlain cs
  -- 3. "What is accepted is true of the runs: every chance within n steps is at most the upper; every chance within 2^k − 1 steps is at least the
  -- lower less (1 − m)^k times the upper; every mean of steps counted to n is at most the figure." And live marks are true of them.
  pub uppers_true : UpperShown cs
  pub lowers_true : LowerShown cs
  pub means_true : MeanShown cs
  pub live_marks_true : LiveShown cs
  -- A merge makes no upper, lower or mean steps that are shown less sharp, and no margin smaller than the smaller of the two (request A.5).
  pub merges_sharpen : (d : List ℕ) → MergeSharpens cs d
  -- So are the chances of short runs, and they keep to the uppers (request A.1).
  pub short_chances_true : ShortShown cs
  pub short_chances_under_uppers : ShortUnderUpper cs
  -- How long until nearly all are back: within n steps at least 1 − r/n, for the mean steps r that are shown (request A.7).
  pub tails_true : TailShown cs
  -- Where the held model is the one that a counter file makes, uppers, lowers, mean steps and short chances are true of first passage to zero (request A.2), and so is the tail (request A.7).
  pub passage_uppers_true : PassageUpperShown cs
  pub passage_lowers_true : PassageLowerShown cs
  pub passage_means_true : PassageMeanShown cs
  pub passage_tails_true : PassageTailShown cs
  pub short_passages_true : PassageShortShown cs
