-- The laws behind this crate's code: tests row by row.
pub mod Tests
