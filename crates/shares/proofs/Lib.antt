-- The law behind this crate's code: the margin as a running least value.
pub mod Shares
