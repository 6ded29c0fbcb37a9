-- What uppers leave above f: u − f(u), which is shown, and the least share. `Clauses` serves the contracts of the code alone.
pub mod Gap
pub mod Clauses
