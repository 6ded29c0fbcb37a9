-- Live marks as the code finds them. `Clauses` serves the contracts of the code alone.
pub mod Clauses
