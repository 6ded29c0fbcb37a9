-- Probabilistic one-counter machines (request A.2; document 000, section 5): their moves and runs, the chance of first reaching zero and the mean of moves
-- to it, the model that a machine is, equation (19), and what is promised of first passage; a small queue, worked out. Nothing here knows bytes.
pub mod Moves
pub mod Passage
pub mod Pushing
pub mod Equation
pub mod Promised
pub mod Edges
