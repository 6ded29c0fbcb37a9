-- The laws of exits as bits, and of rounds of marks.
pub mod Bits
pub mod Marks
