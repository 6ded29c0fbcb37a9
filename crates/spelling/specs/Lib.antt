-- What words spell. `Clauses` serves the contracts of the code alone.
pub mod Spelling
pub mod Clauses
