-- A desk through a piece of input, and where it reads the names of files.
pub mod Serving
pub mod Names
