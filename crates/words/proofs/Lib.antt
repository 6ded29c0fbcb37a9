-- The table of numbers in files, and their laws.
pub mod Edges
pub mod Words
