-- A piece of input that the desk takes whole.
pub mod Clauses
