-- What words spell: laws of words, and of the words after the first.
pub mod Words
pub mod Rest
