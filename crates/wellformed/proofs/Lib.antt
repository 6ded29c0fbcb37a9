-- The table of neighbouring records, and the laws of the verdict on a model file: what acceptance means, the place of a refusal, the order of records by their numbers, the
-- verdict and the rows' sums step by step, and that a record lies above another in one way at most.
pub mod Edges
pub mod Accepted
pub mod Places
pub mod Order
pub mod Verdict
pub mod Sums
pub mod Props
