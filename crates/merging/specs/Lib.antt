-- Merging two deliveries (request A.5): what it gains, of files, and the numbers that a register then holds. The merged file is defined in crate delivery
-- (`Merged`). `Clauses` serves the contracts of the code alone.
pub mod Sharper
pub mod Numbers
pub mod Clauses
