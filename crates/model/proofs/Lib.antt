-- The table of records by their bytes, and the laws of a model file: its limits, its records, their numbers and rows, what an accepted one gives, and files
-- made of rules.
pub mod Edges
pub mod Limits
pub mod Records
pub mod Numbers
pub mod Rows
pub mod Accepted
pub mod Made
