-- The table of records by their bytes, and the laws of a delivery file: its shapes, the values past its first records, which record is due where, files
-- made of numbers, and that a file is told by its records.
pub mod Edges
pub mod Shapes
pub mod Values
pub mod Due
pub mod Made
pub mod Merged
pub mod Told
