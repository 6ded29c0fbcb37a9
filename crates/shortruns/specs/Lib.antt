-- How many steps a very short run may have (request A.1). `Clauses` serves the contracts of the code alone.
pub mod Short
pub mod Clauses
