-- Walks over numbers, lists, rows and entries, the order of files and the order by exit: what every other crate's definitions are made of.
pub mod Sums
pub mod Lists
pub mod Order
pub mod Edges
