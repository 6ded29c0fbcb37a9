-- Replies, byte by byte.
pub mod Edges
