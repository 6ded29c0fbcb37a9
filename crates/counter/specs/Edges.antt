-- Counter files with the outcome that is due: each reason of request A.2 with those before and after it, the ends of ranges, the place that is named;
-- and a small queue (examples/queue) by its bytes, with the model file that it makes.
use Rattle.std.specs.Prelude.{ℕ, List, [], ◌∷◌, ◌++◌, pos, replicate}
use Rattle.outcome.specs.declared.Reason.{Reason}
use Rattle.outcome.specs.declared.Reason.TheVariants.{CounterLength, CounterRecord, CounterSum}
use Rattle.counter.specs.Verdict.{counter_verdict}
use Rattle.counter.specs.Made.{counter_record}
use Rattle.outcome.specs.Outcomes.{Outcome, Accepted, Refused}

pub record Case : Type 0 where
  pub file : List ℕ
  pub due : Outcome

-- Its outcome, and the one that is due.
abbrev pub outcome_of : Case → Outcome
outcome_of x = counter_verdict x.file

abbrev pub outcome_due : Case → Outcome
outcome_due x = x.due

abbrev pub accepts : List ℕ → Case
accepts c = record { file = c; due = Accepted }

abbrev pub refuses : List ℕ → Reason → ℕ → Case
refuses c x i = record { file = c; due = Refused x i (pos 0) }

-- The queue: its records, byte by byte.
abbrev pub queue_file : List ℕ
queue_file =
    0 ∷ 0 ∷ 0 ∷ 0 ∷ 0 ∷ 128 ∷ 0 ∷ 0
    ∷ 0 ∷ 0 ∷ 2 ∷ 0 ∷ 0 ∷ 64 ∷ 0 ∷ 0
    ∷ 0 ∷ 1 ∷ 1 ∷ 0 ∷ 0 ∷ 64 ∷ 0 ∷ 0
    ∷ 1 ∷ 0 ∷ 1 ∷ 0 ∷ 0 ∷ 32 ∷ 0 ∷ 0
    ∷ 1 ∷ 1 ∷ 0 ∷ 0 ∷ 0 ∷ 128 ∷ 0 ∷ 0
    ∷ 1 ∷ 1 ∷ 2 ∷ 0 ∷ 0 ∷ 96 ∷ 0 ∷ 0 ∷ []

-- The same records by their numbers, with the last weight open.
abbrev pub queue_with : ℕ → List ℕ
queue_with k =
    counter_record 0 0 0 0 32768 ++ (counter_record 0 0 2 0 16384 ++ (counter_record 0 1 1 0 16384
    ++ (counter_record 1 0 1 0 8192 ++ (counter_record 1 1 0 0 32768 ++ counter_record 1 1 2 0 k))))

-- The records of its model.
abbrev pub queue_model : List ℕ
queue_model =
    0 ∷ 0 ∷ 0 ∷ 0 ∷ 0 ∷ 0 ∷ 0 ∷ 128 ∷ 0 ∷ 0
    ∷ 0 ∷ 0 ∷ 0 ∷ 2 ∷ 0 ∷ 0 ∷ 0 ∷ 64 ∷ 0 ∷ 0
    ∷ 0 ∷ 0 ∷ 1 ∷ 1 ∷ 0 ∷ 0 ∷ 0 ∷ 64 ∷ 0 ∷ 0
    ∷ 1 ∷ 0 ∷ 0 ∷ 1 ∷ 0 ∷ 0 ∷ 0 ∷ 32 ∷ 0 ∷ 0
    ∷ 1 ∷ 0 ∷ 1 ∷ 0 ∷ 0 ∷ 0 ∷ 0 ∷ 128 ∷ 0 ∷ 0
    ∷ 1 ∷ 0 ∷ 1 ∷ 2 ∷ 0 ∷ 0 ∷ 0 ∷ 96 ∷ 0 ∷ 0 ∷ []

-- 46: no bytes, no whole records. It comes before 47.
abbrev pub length_cases : List Case
length_cases =
    refuses [] CounterLength 0
    ∷ refuses (0 ∷ 0 ∷ 0 ∷ 0 ∷ 0 ∷ 0 ∷ 1 ∷ []) CounterLength 0
    ∷ refuses (counter_record 0 0 0 0 65536 ++ (8 ∷ [])) CounterLength 0
    ∷ refuses (counter_record 0 0 0 0 65536 ++ (0 ∷ 0 ∷ 1 ∷ 0 ∷ [])) CounterLength 0
    ∷ []

-- One record too many; with as many as may stand, the first record is refused.
abbrev pub longest_cases : List Case
longest_cases = refuses (replicate 1544 0) CounterLength 0 ∷ refuses (replicate 1536 0) CounterRecord 0 ∷ []

-- Each of eight states goes to itself, the last with d and this weight.
abbrev pub eight_states : ℕ → ℕ → List ℕ
eight_states d k =
    counter_record 0 0 0 0 65536 ++ (counter_record 1 1 0 0 65536 ++ (counter_record 2 2 0 0 65536 ++ (counter_record 3 3 0 0 65536
    ++ (counter_record 4 4 0 0 65536 ++ (counter_record 5 5 0 0 65536 ++ (counter_record 6 6 0 0 65536 ++ counter_record 7 7 d 0 k))))))

-- 47, by each of its parts, with the values at the ends that pass; in the first and in a later record.
abbrev pub record_cases : List Case
record_cases =
    accepts (counter_record 0 0 0 0 65536)
    ∷ refuses (counter_record 8 0 0 0 65536) CounterRecord 0
    ∷ refuses (counter_record 0 8 0 0 65536) CounterRecord 0
    ∷ refuses (counter_record 0 0 3 0 65536) CounterRecord 0
    ∷ refuses (counter_record 0 0 0 1 65536) CounterRecord 0
    ∷ refuses (counter_record 0 0 0 128 65536) CounterRecord 0
    ∷ refuses (counter_record 0 0 0 0 0) CounterRecord 0
    ∷ refuses (counter_record 0 0 0 0 65537) CounterRecord 0
    ∷ refuses (counter_record 0 0 0 0 16842752) CounterRecord 0
    ∷ accepts (counter_record 0 0 0 0 1 ++ (counter_record 0 0 1 0 65534 ++ counter_record 0 0 2 0 1))
    ∷ refuses (counter_record 0 0 0 0 1 ++ (counter_record 0 0 1 0 65534 ++ counter_record 0 0 3 0 1)) CounterRecord 2
    ∷ accepts (eight_states 0 65536)
    ∷ refuses (eight_states 3 65536) CounterRecord 7
    ∷ []

-- 47 by the order: the same (u, v, d) again, with another weight; d, v and u fall. Records ascend by u first, then by v, then by d.
abbrev pub order_cases : List Case
order_cases =
    refuses (counter_record 0 0 0 0 32767 ++ counter_record 0 0 0 0 32769) CounterRecord 1
    ∷ refuses (counter_record 0 0 1 0 32768 ++ counter_record 0 0 0 0 32768) CounterRecord 1
    ∷ refuses (counter_record 0 0 1 0 32768 ++ (counter_record 0 0 0 0 32768 ++ counter_record 0 0 3 0 32768)) CounterRecord 1
    ∷ refuses (counter_record 0 1 0 0 65536 ++ counter_record 0 0 2 0 65536) CounterRecord 1
    ∷ refuses (counter_record 1 0 0 0 65536 ++ counter_record 0 1 2 0 65536) CounterRecord 1
    ∷ accepts (counter_record 0 1 2 0 65536 ++ counter_record 1 0 0 0 65536)
    ∷ accepts (counter_record 0 0 2 0 32768 ++ (counter_record 0 1 0 0 32768 ++ counter_record 1 0 0 0 65536))
    ∷ []

-- 48: a sum too small, too great, of a state between, of one that is named as v alone; the first such state. It comes after all of 47.
abbrev pub sum_cases : List Case
sum_cases =
    refuses (counter_record 0 0 0 0 65535) CounterSum 0
    ∷ refuses (counter_record 0 0 0 0 65536 ++ counter_record 0 0 1 0 1) CounterSum 0
    ∷ refuses (counter_record 0 1 0 0 65536) CounterSum 1
    ∷ refuses (counter_record 1 1 0 0 65536) CounterSum 0
    ∷ refuses (counter_record 0 2 0 0 65536 ++ counter_record 2 2 0 0 65536) CounterSum 1
    ∷ refuses (counter_record 0 7 0 0 65536 ++ counter_record 7 7 0 0 65535) CounterSum 1
    ∷ refuses (counter_record 0 1 0 0 65536 ++ counter_record 1 1 0 0 65535) CounterSum 1
    ∷ refuses (counter_record 0 0 0 0 65535 ++ counter_record 1 1 0 1 65536) CounterRecord 1
    ∷ refuses (eight_states 0 65535) CounterSum 7
    ∷ accepts (queue_with 24576)
    ∷ refuses (queue_with 24575) CounterSum 1
    ∷ []
