-- The laws of answers: which test a refusal names and at which place, signed differences, and the reasons' numbers.
pub mod Tests
pub mod Differences
pub mod Numbers
