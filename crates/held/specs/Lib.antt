-- What the register holds (document 01, "Filing and questions"): models and numbers as values, lists in the order of files or by exit, and places in them.
-- `Clauses` serves the contracts of the code alone.
pub mod Held
pub mod Places
pub mod Clauses
