-- What a reader of a printout learns, and whole printouts byte by byte.
pub mod Reader
pub mod Edges
