-- The theorems: the queue worked out; a machine is a model with one symbol, its first passage the model's return chance and (19) the model's equation;
-- so what is promised of models is true of first passage.
pub mod Edges
pub mod Models
pub mod Passage
pub mod Equation
pub mod Promised
pub mod QueueHolds
