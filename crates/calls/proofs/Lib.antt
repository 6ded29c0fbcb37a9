-- The laws of answers.
pub mod Answers
