-- Mission point 3 for files, the tables of edges, and the tests and the margin as the code works them out.
pub mod Holds
pub mod Edges
pub mod Blocks
pub mod Rest
pub mod Shares
pub mod Steps
