-- The units in which document 01 counts ("Models", "Deliveries").
use Rattle.std.specs.Prelude.{ℕ, ◌^◌}

-- A rule's chance counts 1/65,536: the weights of a row sum to this.
abbrev pub weight_unit : ℕ
weight_unit = 65536

-- Uppers and lowers count 1,048,576ths, and so does the margin.
abbrev pub chance_unit : ℕ
chance_unit = 2 ^ 20

-- They are at most 2.
abbrev pub most_chance : ℕ
most_chance = 2097152

-- Mean steps count 256ths of a step, and are from 1 to 16,384 steps.
abbrev pub step_unit : ℕ
step_unit = 2 ^ 8

abbrev pub least_mean : ℕ
least_mean = 256

abbrev pub most_mean : ℕ
most_mean = 4194304

-- Both sides of an inequality count 1/2^56, and of one on mean steps 1/2^44 of a step: a filed number is 2^36 of these.
abbrev pub sum_unit : ℕ
sum_unit = 2 ^ 36
