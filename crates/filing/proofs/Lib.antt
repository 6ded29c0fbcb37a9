-- What a filing is answered: its outcome and its mark, by what is held.
pub mod Outcomes
pub mod Known
