-- Lines of a report: the table of lines holds, and lines are read as they were made.
pub mod Edges
pub mod Read
