-- The laws of the rows' ranges of records, and of sums over them.
pub mod Ranges
pub mod Sums
