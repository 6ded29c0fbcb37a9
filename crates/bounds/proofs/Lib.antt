-- The laws of the numbers that C hosts get.
pub mod Codes
pub mod Host
