-- What a script of calls prints, a desk byte by byte, and a table of scripts. `Clauses` serves the contracts of the code alone.
pub mod Script
pub mod Serving
pub mod Clauses
pub mod Edges
