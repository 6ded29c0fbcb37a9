-- A counter file (request A.2): its format and limits, its records and the machine that they say, the tests 46 to 48 in their order, what an accepted one is in
-- plain words, the model file that it makes, and its filing; a table of refusals. `Clauses` serves the contracts of the code alone.
pub mod Format
pub mod Records
pub mod Moves
pub mod Verdict
pub mod Accepted
pub mod Made
pub mod Filing
pub mod Edges
pub mod Clauses
