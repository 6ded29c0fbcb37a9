-- The laws of merging: where two deliveries pass, the merged one passes and is at least as sharp as both, with a margin of at least the smaller of theirs; and
-- the numbers that a register then holds are those of the merged file.
pub mod Accepted
pub mod Sharper
pub mod Lists
pub mod Found
pub mod Held
