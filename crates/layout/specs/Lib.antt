-- The tests 21 and 22 of a delivery file in their order (document 01, "Reasons found in the files"). `Clauses` serves the contracts of the code
-- alone.
pub mod Layout
pub mod Clauses
