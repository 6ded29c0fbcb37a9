-- The laws of walks, of the places of rows and entries in the order of files and by exit, and what tests of numbers say.
pub mod Sums
pub mod Lists
pub mod Places
pub mod Exits
pub mod Orders
pub mod Exactly
pub mod Numbers
pub mod Edges
