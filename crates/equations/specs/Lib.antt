-- Names for what the functions work out from a file's bytes. `Clauses` serves the contracts of the code alone.
pub mod Clauses
