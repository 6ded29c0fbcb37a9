-- Numbers in files, and a table of them by their bytes. `Clauses` serves the contracts of the code alone.
pub mod Words
pub mod Edges
pub mod Clauses
