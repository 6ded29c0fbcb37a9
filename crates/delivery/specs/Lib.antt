-- A delivery file (document 01, "Deliveries"), in the order of the document: its format, records, shapes and numbers, and the file with given
-- numbers; and a table of records by their bytes. `Clauses` serves the contracts of the code alone.
pub mod Format
pub mod Records
pub mod Shapes
pub mod Numbers
pub mod Made
pub mod Merged
pub mod Edges
pub mod Clauses
