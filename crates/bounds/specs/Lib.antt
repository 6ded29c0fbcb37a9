-- The calls for C hosts, and what a host learns from a code of 0. `Clauses` serves the contracts of the code alone.
pub mod Codes
pub mod Host
pub mod Clauses
