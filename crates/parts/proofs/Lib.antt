-- The laws of parts of files and of the offending part, which is whole where a check names a record; and what a walker, a file and a
-- kind own in memory.
pub mod Wholes
pub mod Offences
pub mod Named
pub mod Owned
pub mod Edges
