-- The tests 23 to 27 of a delivery's numbers. `Clauses` serves the contracts of the code alone.
pub mod Inequalities
pub mod Clauses
