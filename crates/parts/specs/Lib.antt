-- Parts of files, and a table of offending records.
pub mod Parts
pub mod Edges
