-- A model file (document 01, "Models"), in the order of the document: its format and limits, its records and the number of each, its sizes, the rules that the records
-- say, what an accepted one is in plain words, and the file that says given rules; model W, and a table of records by their bytes. `Clauses` serves the contracts of the code alone.
pub mod Format
pub mod Records
pub mod Numbers
pub mod Sizes
pub mod Rules
pub mod Accepted
pub mod Made
pub mod W
pub mod Edges
pub mod Clauses
