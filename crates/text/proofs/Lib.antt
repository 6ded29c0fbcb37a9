-- Text: laws of text in a buffer, of numbers in decimal, and of reading.
pub mod Puts
pub mod Decimals
pub mod Reading
