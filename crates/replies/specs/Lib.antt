-- The lines that a register's replies are on a desk, and a table of them. `Clauses` serves the contracts of the code alone.
pub mod Replies
pub mod Clauses
pub mod Edges
