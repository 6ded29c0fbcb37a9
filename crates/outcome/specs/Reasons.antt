-- The numbers of document 01 and of the requests for the reasons ("Reasons found in the files, in order", "Reasons found in the register").
use Rattle.std.specs.Prelude.{ℕ}
use Rattle.outcome.specs.declared.Reason.{Reason}
use Rattle.outcome.specs.declared.Reason.TheVariants.{ModelLength, OutOfRange, UnusedNotZero, WeightOutOfRange, NotAscending, RowSumWrong, NoShape, NotDue, ValueOutOfRange, DeadNotZero, UpperTooSmall, LowerAboveUpper, LowerTooLarge, MeanTooSmall, NoModel, ModelHeld, NoDelivery, NotOfModel, NoBlock, TooManySteps, CounterLength, CounterRecord, CounterSum}

-- The number of a reason.
abbrev pub number_of : Reason → ℕ
-- A model: its length; then of a record: state, symbol or count of pushed symbols out of range, an unused symbol not 0, the weight, not above
-- the record before; then a row's sum.
number_of ModelLength = 10
number_of OutOfRange = 11
number_of UnusedNotZero = 12
number_of WeightOutOfRange = 13
number_of NotAscending = 14
number_of RowSumWrong = 15
-- A delivery: its length; then of a record: kind, p, Z, q not those due there, the value; then over the whole file, one after the other: a
-- dead entry not 0, u < f(u) (or u = f(u) at a live entry beside lowers), l > u, l > f(l), the mean steps' inequality.
number_of NoShape = 20
number_of NotDue = 21
number_of ValueOutOfRange = 22
number_of DeadNotZero = 23
number_of UpperTooSmall = 24
number_of LowerAboveUpper = 25
number_of LowerTooLarge = 26
number_of MeanTooSmall = 27
-- The register, in the order in which these apply: no model held; a model or a counter file filed while a model is held; no delivery held; a state or symbol not of
-- the held model; no L or R block in the held delivery; more than three steps asked for (request A.1).
number_of NoModel = 40
number_of ModelHeld = 41
number_of NoDelivery = 42
number_of NotOfModel = 44
number_of NoBlock = 43
number_of TooManySteps = 45
-- A counter file (request A.2): its length; then of a record: a number out of range, a fourth byte not 0, or not above the record before; then a state's sum.
number_of CounterLength = 46
number_of CounterRecord = 47
number_of CounterSum = 48
