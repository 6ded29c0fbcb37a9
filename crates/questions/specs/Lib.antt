-- The questions, answered from what is held. `Clauses` serves the contracts of the code alone.
pub mod Questions
pub mod Clauses
