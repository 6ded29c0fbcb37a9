-- u − f(u): laws of one entry, of every entry, and of the block of uppers of an accepted delivery.
pub mod Differences
