-- The call that a line says, and a table of lines. `Clauses` serves the contracts of the code alone.
pub mod Said
pub mod Clauses
pub mod Edges
