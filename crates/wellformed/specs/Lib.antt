-- The tests 10 to 15 of a model file in their order (document 01, "Reasons found in the files"). A table of neighbouring records. `Clauses` serves the contracts of the code alone.
pub mod Verdict
pub mod Edges
pub mod Clauses
