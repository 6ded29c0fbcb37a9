-- The laws of a delivery's layout: its tests in the order in which the code meets them, what they say, and files made of numbers.
pub mod Blocks
pub mod Says
pub mod Made
