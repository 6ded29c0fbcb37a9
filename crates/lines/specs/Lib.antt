-- Lines of a report, and a table of lines byte by byte. `Clauses` serves the contracts of the code alone.
pub mod Lines
pub mod Edges
pub mod Clauses
