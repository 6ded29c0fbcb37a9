-- Where the records of each row of an accepted model start. `Clauses` serves the contracts of the code alone.
pub mod Clauses
