-- The range of the reasons' numbers.
use Prim.Native.Nat.{◌<◌}
use native.Mathlib.Omega.{arith}
use Rattle.outcome.specs.declared.Reason.{Reason}
use Rattle.outcome.specs.declared.Reason.TheVariants.{ModelLength, OutOfRange, UnusedNotZero, WeightOutOfRange, NotAscending, RowSumWrong, NoShape, NotDue, ValueOutOfRange, DeadNotZero, UpperTooSmall, LowerAboveUpper, LowerTooLarge, MeanTooSmall, NoModel, ModelHeld, NoDelivery, NotOfModel, NoBlock, TooManySteps, CounterLength, CounterRecord, CounterSum}
use Rattle.outcome.specs.Reasons.{number_of}

in_range_lem : (r : Reason) → (0 < number_of r) × (number_of r < 64)
in_range_lem ModelLength = omega arith
in_range_lem OutOfRange = omega arith
in_range_lem UnusedNotZero = omega arith
in_range_lem WeightOutOfRange = omega arith
in_range_lem NotAscending = omega arith
in_range_lem RowSumWrong = omega arith
in_range_lem NoShape = omega arith
in_range_lem NotDue = omega arith
in_range_lem ValueOutOfRange = omega arith
in_range_lem DeadNotZero = omega arith
in_range_lem UpperTooSmall = omega arith
in_range_lem LowerAboveUpper = omega arith
in_range_lem LowerTooLarge = omega arith
in_range_lem MeanTooSmall = omega arith
in_range_lem NoModel = omega arith
in_range_lem ModelHeld = omega arith
in_range_lem NoDelivery = omega arith
in_range_lem NotOfModel = omega arith
in_range_lem NoBlock = omega arith
in_range_lem TooManySteps = omega arith
in_range_lem CounterLength = omega arith
in_range_lem CounterRecord = omega arith
in_range_lem CounterSum = omega arith

-- No reason has the number 0.
pub number_some : (r : Reason) → 0 < number_of r
number_some r = (in_range_lem r).0

pub number_small : (r : Reason) → number_of r < 64
number_small r = (in_range_lem r).1
