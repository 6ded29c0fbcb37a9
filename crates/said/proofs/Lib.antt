-- What a line says: laws of what the words after the first say, and of lines.
pub mod Rest
pub mod Calls
pub mod Meaning
pub mod Edges
