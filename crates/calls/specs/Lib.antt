-- The calls on a register (document 01, "Filing and questions"): what is called and replied, and what the code answers.
pub mod Calls
pub mod Answers
