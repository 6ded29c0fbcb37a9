-- The starred edges of document 01 ("Edges"), as one table of cases over the definitions; and tables of margins, of bad input, of files that fail
-- twice, of the ends of ranges and numbers, of the order of files, and of numbers that just pass. Outcomes stand by document 01's numbers.
use Rattle.std.specs.Prelude.{ℕ, List, [], ◌∷◌, ◌++◌, ◌≡◌, ℤ, pos, negsuc, take, replicate, Some, Err, Ok}
use Rattle.outcome.specs.Reasons.{number_of}
use Rattle.ppda.specs.Live.{Live}
use Rattle.model.specs.Rules.{rules_of}
use Rattle.model.specs.Made.{model_record}
use Rattle.model.specs.W.{w_file}
use Rattle.delivery.specs.Made.{delivery_record}
use Rattle.verdict.specs.Verdict.{verdict}
use Rattle.certificate.specs.Margin.{shown_margin}
use Rattle.outcome.specs.Outcomes.{Outcome}

-- An outcome by document 01's numbers.
pub data DueAnswer : Type 0 where
  accepted : DueAnswer
  refused : (number place : ℕ) (shortfall : ℤ) → DueAnswer

abbrev pub answer_of : Outcome → DueAnswer
answer_of (Ok u) = accepted
answer_of (Err why) = refused (number_of why.reason) why.place why.shortfall

-- What a case claims of a model and a delivery: the verdict, the margin shown, or that an entry of the model is dead: no run empties the
-- stack there.
pub data Claim : Type 0 where
  verdict_is : (o : DueAnswer) → Claim
  margin_is : (m : ℕ) → Claim
  is_dead : (p z q : ℕ) → Claim

pub record Case : Type 0 where
  pub model : List ℕ
  pub delivery : List ℕ
  pub claim : Claim

abbrev pub Claimed : List ℕ → List ℕ → Claim → Type 0
Claimed b d (verdict_is o) = answer_of (verdict b d) ≡ o
Claimed b d (margin_is m) = shown_margin b d ≡ Some m
Claimed b d (is_dead p z q) = Live (rules_of b) p z q → ⊥

-- Every case of the table holds.
abbrev pub AllHold : List Case → Type 0
AllHold [] = Unit {0}
AllHold (c ∷ cs) = Claimed c.model c.delivery c.claim × AllHold cs

abbrev pub case : List ℕ → List ℕ → Claim → Case
case b d k = record { model = b; delivery = d; claim = k }

-- A delivery of shape ULR for W, with the uppers of (0, 0, 1) and (1, 0, 0), the lowers of (0, 0, 0), (1, 0, 0) and (1, 0, 1), and the
-- first mean steps left open; and that of document 01, with the second upper and the first mean steps left open.
abbrev pub w_other : ℕ → ℕ → ℕ → ℕ → ℕ → ℕ → List ℕ
w_other u v k l m r =
    delivery_record 85 0 0 0 655360 ++ (delivery_record 85 0 0 1 u ++ (delivery_record 85 1 0 0 v ++ (delivery_record 85 1 0 1 1179648
    ++ (delivery_record 76 0 0 0 k ++ (delivery_record 76 0 0 1 393216 ++ (delivery_record 76 1 0 0 l ++ (delivery_record 76 1 0 1 m
    ++ (delivery_record 82 0 0 0 r ++ delivery_record 82 1 0 0 256))))))))

abbrev pub w_delivery : ℕ → ℕ → List ℕ
w_delivery u r = w_other u 0 524288 0 1048576 r

-- One state and one symbol: a record that pushes nothing and one that pushes two, with these weights; one that pushes nothing; Z to Z.
abbrev pub one_state : ℕ → ℕ → List ℕ
one_state a b = model_record 0 0 0 0 0 0 a ++ model_record 0 0 0 2 0 0 b

abbrev pub one_rule : ℕ → List ℕ
one_rule k = model_record 0 0 0 0 0 0 k

abbrev pub z_to_z : List ℕ
z_to_z = model_record 0 0 0 1 0 0 65536

-- The starred edges, in the order of document 01. `negsuc n` is −(n + 1).
abbrev pub edges : List Case
edges =
    case w_file (w_delivery 524288 512) (verdict_is accepted)
    ∷ case w_file (w_delivery 524288 512) (margin_is 45875)
    ∷ case w_file (w_delivery 524288 512) (is_dead 1 0 0)
    ∷ case w_file (w_delivery 466034 512) (verdict_is accepted)
    ∷ case w_file (w_delivery 466033 512) (verdict_is (refused 24 1 (negsuc 30064771071)))
    ∷ case w_file (w_delivery 524288 486) (verdict_is accepted)
    ∷ case w_file (w_delivery 524288 485) (verdict_is (refused 27 8 (negsuc 2147483647)))
    ∷ case (one_state 49152 16384) (delivery_record 85 0 0 0 1048576 ++ delivery_record 82 0 0 0 512) (verdict_is accepted)
    ∷ case (one_state 49152 16384) (delivery_record 85 0 0 0 1048576 ++ delivery_record 82 0 0 0 511)
    (verdict_is (refused 27 1 (negsuc 34359738367)))
    ∷ case (one_state 49152 16384) (delivery_record 85 0 0 0 1048576 ++ delivery_record 76 0 0 0 0) (verdict_is (refused 24 0 (pos 0)))
    ∷ case (one_state 32768 32768) (delivery_record 85 0 0 0 1048576) (verdict_is accepted)
    ∷ case (one_state 16384 49152) (delivery_record 85 0 0 0 524288 ++ delivery_record 76 0 0 0 1048576) (verdict_is (refused 25 1 (pos 0)))
    ∷ case z_to_z [] (is_dead 0 0 0)
    ∷ []

-- The uppers and lowers of document 01 for W, with the last upper left open.
abbrev pub w_last : ℕ → List ℕ
w_last u =
    delivery_record 85 0 0 0 655360 ++ (delivery_record 85 0 0 1 524288 ++ (delivery_record 85 1 0 0 0 ++ (delivery_record 85 1 0 1 u
    ++ (delivery_record 76 0 0 0 524288 ++ (delivery_record 76 0 0 1 393216 ++ (delivery_record 76 1 0 0 0 ++ delivery_record 76 1 0 1 1048576))))))

-- Margins: the least share in the middle (17161.69…) and at the end (30509.67…), both rounded down; a share below 1/2^20; nothing live.
abbrev pub margins : List Case
margins =
    case w_file (w_delivery 480000 512) (margin_is 17161)
    ∷ case w_file (w_last 1080000) (margin_is 30509)
    ∷ case (one_rule 65536) (delivery_record 85 0 0 0 1048577 ++ delivery_record 76 0 0 0 256) (margin_is 0)
    ∷ case z_to_z (delivery_record 85 0 0 0 0 ++ delivery_record 76 0 0 0 0) (margin_is 1048576)
    ∷ []

-- Two files and the answer that is due.
pub record Input : Type 0 where
  pub model : List ℕ
  pub delivery : List ℕ
  pub due : DueAnswer

abbrev pub input : List ℕ → List ℕ → DueAnswer → Input
input b d o = record { model = b; delivery = d; due = o }

-- A refusal that misses no inequality.
abbrev pub refused_at : ℕ → ℕ → DueAnswer
refused_at n i = refused n i (pos 0)

-- The answer to an input, and the answer that is due to it.
abbrev pub answer_to : Input → DueAnswer
answer_to c = answer_of (verdict c.model c.delivery)

abbrev pub due_to : Input → DueAnswer
due_to c = c.due

-- Bad input, each beside what is just right. Lengths: none, a byte short, a byte long. Each number of a model record out of range, unused
-- symbols, weights, order, a row's sum. Lengths of a delivery, each byte of a record, values, the shapes of one state, a dead entry.
abbrev pub bad_inputs : List Input
bad_inputs =
    input [] [] (refused_at 10 0)
    ∷ input (take 39 w_file) [] (refused_at 10 0)
    ∷ input (w_file ++ (0 ∷ [])) [] (refused_at 10 0)
    ∷ input (model_record 8 0 0 0 0 0 65536) [] (refused_at 11 0)
    ∷ input (model_record 0 16 0 0 0 0 65536) [] (refused_at 11 0)
    ∷ input (model_record 0 0 8 0 0 0 65536) [] (refused_at 11 0)
    ∷ input (model_record 0 0 0 3 0 0 65536) [] (refused_at 11 0)
    ∷ input (model_record 0 0 0 2 16 0 65536) [] (refused_at 11 0)
    ∷ input (model_record 0 0 0 2 0 16 65536) [] (refused_at 11 0)
    ∷ input (model_record 0 0 0 0 16 1 0) [] (refused_at 11 0)
    ∷ input (model_record 0 0 0 0 1 0 65536) [] (refused_at 12 0)
    ∷ input (model_record 0 0 0 0 0 1 65536) [] (refused_at 12 0)
    ∷ input (model_record 0 0 0 1 0 1 65536) [] (refused_at 12 0)
    ∷ input (one_rule 0) [] (refused_at 13 0)
    ∷ input (one_rule 65537) [] (refused_at 13 0)
    ∷ input (one_rule 32768 ++ one_rule 32768) [] (refused_at 14 1)
    ∷ input (one_rule 16384 ++ one_rule 49152) [] (refused_at 14 1)
    ∷ input (model_record 0 0 0 1 0 0 32768 ++ one_rule 32768) [] (refused_at 14 1)
    ∷ input (one_rule 65535) [] (refused_at 15 0)
    ∷ input (one_rule 65536 ++ model_record 0 1 0 0 0 0 65535) [] (refused_at 15 1)
    ∷ input (one_rule 65536) [] (refused_at 20 0)
    ∷ input (one_rule 65536) (take 7 (delivery_record 85 0 0 0 1048576)) (refused_at 20 0)
    ∷ input (one_rule 65536) (delivery_record 85 0 0 0 1048576 ++ (0 ∷ [])) (refused_at 20 0)
    ∷ input (one_rule 65536) (delivery_record 76 0 0 0 1048576) (refused_at 21 0)
    ∷ input (one_rule 65536) (delivery_record 85 1 0 0 1048576) (refused_at 21 0)
    ∷ input (one_rule 65536) (delivery_record 85 0 1 0 1048576) (refused_at 21 0)
    ∷ input (one_rule 65536) (delivery_record 85 0 0 1 1048576) (refused_at 21 0)
    ∷ input (one_rule 65536) (delivery_record 85 0 0 0 2097152) accepted
    ∷ input (one_rule 65536) (delivery_record 85 0 0 0 2097153) (refused_at 22 0)
    ∷ input (one_rule 65536) (delivery_record 85 0 0 0 1048577 ++ delivery_record 76 0 0 0 2097153) (refused_at 22 1)
    ∷ input (one_rule 65536) (delivery_record 85 0 0 0 1048577 ++ delivery_record 76 0 0 0 256) accepted
    ∷ input (one_rule 65536) (delivery_record 85 0 0 0 1048577 ++ delivery_record 82 0 0 0 255) (refused_at 22 1)
    ∷ input (one_rule 65536) (delivery_record 85 0 0 0 1048577 ++ delivery_record 82 0 0 0 256) accepted
    ∷ input (one_rule 65536) (delivery_record 85 0 0 0 1048577 ++ delivery_record 82 0 0 0 4194305) (refused_at 22 1)
    ∷ input (one_rule 65536) (delivery_record 85 0 0 0 1048577 ++ delivery_record 0 0 0 0 256) (refused_at 21 1)
    ∷ input z_to_z (delivery_record 85 0 0 0 1) (refused_at 23 0)
    ∷ input z_to_z (delivery_record 85 0 0 0 0 ++ delivery_record 76 0 0 0 1) (refused_at 23 1)
    ∷ input (one_rule 65536) (delivery_record 85 0 0 0 1048577 ++ delivery_record 76 0 0 0 1048577) (refused 26 1 (negsuc 68719476735))
    ∷ []

-- Files that fail twice: the first failure in the fixed order is named.
abbrev pub fail_twice : List Input
fail_twice =
    input (model_record 0 0 0 0 1 0 0) [] (refused_at 12 0)
    ∷ input (one_rule 32768 ++ one_rule 0) [] (refused_at 13 1)
    ∷ input (one_rule 0 ++ model_record 8 0 0 0 0 0 1) [] (refused_at 13 0)
    ∷ input (one_rule 32768 ++ (one_rule 32768 ++ model_record 8 0 0 0 0 0 1)) [] (refused_at 14 1)
    ∷ input (one_rule 65535) (delivery_record 85 0 0 0 1048576) (refused_at 15 0)
    ∷ input (one_rule 65536) (delivery_record 76 0 0 0 2097153) (refused_at 21 0)
    ∷ input (one_rule 65536) (delivery_record 85 0 0 0 2097153 ++ delivery_record 76 1 0 0 0) (refused_at 22 0)
    ∷ input z_to_z (delivery_record 85 0 0 0 1 ++ delivery_record 76 0 0 0 2097153) (refused_at 22 1)
    ∷ input w_file (w_other 524288 1 524288 0 1048576 255) (refused_at 22 8)
    ∷ input w_file (w_other 524288 1 524288 1 1048576 512) (refused_at 23 2)
    ∷ input w_file (w_other 466033 0 524288 1 1048576 512) (refused_at 23 6)
    ∷ input w_file (w_other 466033 0 655361 0 1048576 512) (refused 24 1 (negsuc 30064771071))
    ∷ input w_file (w_other 524288 0 655360 0 1179649 512) (refused_at 25 7)
    ∷ input w_file (w_other 524288 0 524288 0 1048577 485) (refused 26 7 (negsuc 68719476735))
    ∷ []

-- The ends of ranges, the sizes that each field makes, and places in later rows and blocks.
abbrev pub places_and_ends : List Input
places_and_ends =
    input (one_rule 65535 ++ model_record 0 0 0 2 0 0 1) [] (refused_at 20 0)
    ∷ input (model_record 0 0 0 2 0 0 32768 ++ model_record 0 0 0 2 0 1 32768) [] (refused_at 15 1)
    ∷ input (model_record 0 0 0 2 0 1 32768 ++ model_record 0 0 0 2 1 0 32768) [] (refused_at 15 1)
    ∷ input (model_record 0 0 1 0 0 0 65536) [] (refused_at 15 1)
    ∷ input (model_record 0 0 0 1 1 0 65536) [] (refused_at 15 1)
    ∷ input (model_record 0 0 0 2 0 1 65536) [] (refused_at 15 1)
    ∷ input (model_record 0 0 1 0 0 0 65536 ++ model_record 0 2 0 0 0 0 65536) [] (refused_at 15 1)
    ∷ input (model_record 0 0 1 0 0 0 65536 ++ (model_record 0 1 0 0 0 0 65536 ++ model_record 0 2 0 0 0 0 65536)) [] (refused_at 15 3)
    ∷ input (one_rule 65536) (delivery_record 85 0 0 0 1048577 ++ delivery_record 76 0 1 0 256) (refused_at 21 1)
    ∷ input (one_rule 65536) (delivery_record 85 0 0 0 1048577 ++ delivery_record 82 1 0 0 256) (refused_at 21 1)
    ∷ input (one_rule 65536) (delivery_record 85 0 0 0 1048577 ++ delivery_record 82 0 0 1 256) (refused_at 21 1)
    ∷ input (one_rule 65536) (delivery_record 85 0 0 0 2097152 ++ delivery_record 76 0 0 0 2097152) (refused 26 1 (negsuc 72057594037927935))
    ∷ input (one_rule 65536) (delivery_record 85 0 0 0 1048577 ++ delivery_record 82 0 0 0 4194304) accepted
    ∷ input w_file (w_other 524288 0 524288 1 1048576 512) (refused_at 23 6)
    ∷ input w_file (w_other 524288 0 655361 0 1048576 512) (refused_at 25 4)
    ∷ input w_file (w_other 524288 0 524288 0 1048577 512) (refused 26 7 (negsuc 68719476735))
    ∷ []

-- The greatest state and symbols, for which there are 128 rows: the first is missing.
abbrev pub greatest : List Input
greatest = input (model_record 7 15 7 2 15 15 65536) [] (refused_at 15 0) ∷ []

-- Two states and two symbols, of which every rule ends in state 0.
abbrev pub all_to_zero : List ℕ
all_to_zero =
    model_record 0 0 0 0 0 0 65536 ++ (model_record 0 1 0 0 0 0 65536
    ++ (model_record 1 0 0 0 0 0 65536 ++ model_record 1 1 0 0 0 0 65536))

-- The last of its eight uppers.
abbrev pub last_upper : List Input
last_upper =
    input all_to_zero
    (delivery_record 85 0 0 0 0 ++ (delivery_record 85 0 0 1 0 ++ (delivery_record 85 0 1 0 0 ++ (delivery_record 85 0 1 1 0
    ++ (delivery_record 85 1 0 0 0 ++ (delivery_record 85 1 0 1 0 ++ (delivery_record 85 1 1 0 0 ++ delivery_record 85 1 1 1 2097153)))))))
    (refused_at 22 7)
    ∷ []

-- Numbers whose fourth byte is not 0. Without it most of them would be in range.
abbrev pub fourth_bytes : List Input
fourth_bytes =
    input (one_rule 16777216) [] (refused_at 13 0)
    ∷ input (one_rule 2147483648) [] (refused_at 13 0)
    ∷ input (one_rule 16842752) [] (refused_at 13 0)
    ∷ input z_to_z (delivery_record 85 0 0 0 16777216) (refused_at 22 0)
    ∷ input z_to_z (delivery_record 85 0 0 0 2147483648) (refused_at 22 0)
    ∷ input z_to_z (delivery_record 85 0 0 0 0 ++ delivery_record 76 0 0 0 16777216) (refused_at 22 1)
    ∷ input (one_rule 65536) (delivery_record 85 0 0 0 1048577 ++ delivery_record 82 0 0 0 16777472) (refused_at 22 1)
    ∷ []

-- Files of 10,240 bytes, which are read, of one byte more and of a record more.
abbrev pub longest : List Input
longest =
    input (replicate 10240 0) [] (refused_at 13 0)
    ∷ input (replicate 10241 0) [] (refused_at 10 0)
    ∷ input (replicate 10250 0) [] (refused_at 10 0)
    ∷ []

-- A delivery for two states and two symbols, with the uppers of (0, 0, 1), (0, 1, 0), (0, 1, 1), (1, 0, 0) and (1, 0, 1) left open, and the mean steps
-- of (0, 1) and (1, 0).
abbrev pub four_rows : ℕ → ℕ → ℕ → ℕ → ℕ → ℕ → ℕ → List ℕ
four_rows b c d e f r s =
    delivery_record 85 0 0 0 1048576 ++ (delivery_record 85 0 0 1 b ++ (delivery_record 85 0 1 0 c ++ (delivery_record 85 0 1 1 d
    ++ (delivery_record 85 1 0 0 e ++ (delivery_record 85 1 0 1 f ++ (delivery_record 85 1 1 0 1048576 ++ (delivery_record 85 1 1 1 0
    ++ (delivery_record 82 0 0 0 256 ++ (delivery_record 82 0 1 0 r ++ (delivery_record 82 1 0 0 s ++ delivery_record 82 1 1 0 256))))))))))

-- Of two failures of one kind the first in file order is named, by p before Z and by Z before q; records ascend by L before Y; mean steps without
-- lowers; all blocks for one state.
abbrev pub file_order : List Input
file_order =
    input all_to_zero (four_rows 0 1048576 0 1048576 0 256 256) accepted
    ∷ input all_to_zero (four_rows 2097153 2097153 0 1048576 0 256 256) (refused_at 22 1)
    ∷ input all_to_zero (four_rows 0 1048576 0 1048576 0 255 255) (refused_at 22 9)
    ∷ input all_to_zero (four_rows 1 1048576 1 1048576 1 256 256) (refused_at 23 1)
    ∷ input all_to_zero (four_rows 0 1048576 1 1048576 1 256 256) (refused_at 23 3)
    ∷ input all_to_zero (four_rows 0 1048575 0 1048575 0 256 256) (refused 24 2 (negsuc 68719476735))
    ∷ input (model_record 0 0 0 1 1 0 32768 ++ model_record 0 0 0 2 0 0 32768) [] (refused_at 15 1)
    ∷ input w_file
    (delivery_record 85 0 0 0 655360 ++ (delivery_record 85 0 0 1 524288 ++ (delivery_record 85 1 0 0 0 ++ (delivery_record 85 1 0 1 1179648
    ++ (delivery_record 82 0 0 0 485 ++ delivery_record 82 1 0 0 256)))))
    (refused 27 4 (negsuc 2147483647))
    ∷ input (one_state 49152 16384)
    (delivery_record 85 0 0 0 1052672 ++ (delivery_record 76 0 0 0 1048574 ++ delivery_record 82 0 0 0 514))
    accepted
    ∷ []

-- Three symbols: 0 pushes 1 over 2, and 2 pushes 1. The uppers of 0 and 2 and their mean steps are left open.
abbrev pub pushing : List ℕ
pushing = model_record 0 0 0 2 1 2 65536 ++ (model_record 0 1 0 0 0 0 65536 ++ model_record 0 2 0 1 1 0 65536)

abbrev pub pushing_with : ℕ → ℕ → ℕ → ℕ → List ℕ
pushing_with u v r s =
    delivery_record 85 0 0 0 u ++ (delivery_record 85 0 1 0 1310720 ++ (delivery_record 85 0 2 0 v
    ++ (delivery_record 82 0 0 0 r ++ (delivery_record 82 0 1 0 256 ++ delivery_record 82 0 2 0 s))))

-- Numbers that just pass, and each by one beyond.
abbrev pub pushes : List Input
pushes =
    input pushing (pushing_with 1638400 1310720 1152 512) accepted
    ∷ input pushing (pushing_with 1638399 1310720 1152 512) (refused 24 0 (negsuc 68719476735))
    ∷ input pushing (pushing_with 1638400 1310719 1152 512) (refused 24 2 (negsuc 68719476735))
    ∷ input pushing (pushing_with 1638400 1310720 1151 512) (refused 27 3 (negsuc 68719476735))
    ∷ input pushing (pushing_with 1638400 1310720 1152 511) (refused 27 5 (negsuc 68719476735))
    ∷ input w_file (w_other 524288 0 614242 0 1048576 512) (refused 26 4 (negsuc 19455213567))
    ∷ []

-- Shortfalls of a single unit, for 24, 26 and 27, each beside what passes.
abbrev pub three_rules : ℕ → ℕ → ℕ → List ℕ
three_rules a b c = model_record 0 0 0 0 0 0 a ++ (model_record 0 0 0 1 0 0 b ++ model_record 0 0 0 2 0 0 c)

abbrev pub two_symbols : List ℕ
two_symbols =
    model_record 0 0 0 0 0 0 40160 ++ (model_record 0 0 0 1 1 0 13633 ++ (model_record 0 0 0 2 1 1 11743 ++ model_record 0 1 0 0 0 0 65536))

abbrev pub two_symbols_with : ℕ → List ℕ
two_symbols_with l =
    delivery_record 85 0 0 0 1100000 ++ (delivery_record 85 0 1 0 1048577 ++ (delivery_record 76 0 0 0 l ++ delivery_record 76 0 1 0 1048463))

abbrev pub least_shortfalls : List Input
least_shortfalls =
    input (three_rules 1 65534 1) (delivery_record 85 0 0 0 1048575) (refused 24 0 (negsuc 0))
    ∷ input (three_rules 1 65534 1) (delivery_record 85 0 0 0 1048576) accepted
    ∷ input two_symbols (two_symbols_with 1048512) (refused 26 2 (negsuc 0))
    ∷ input two_symbols (two_symbols_with 1048511) accepted
    ∷ input (three_rules 62840 2693 3) (delivery_record 85 0 0 0 1392865 ++ delivery_record 82 0 0 0 267) (refused 27 1 (negsuc 0))
    ∷ input (three_rules 62840 2693 3) (delivery_record 85 0 0 0 1392865 ++ delivery_record 82 0 0 0 268) accepted
    ∷ []
