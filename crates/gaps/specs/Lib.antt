-- u − f(u) of a delivery. `Clauses` serves the contracts of the code alone.
pub mod Gaps
pub mod Clauses
