-- What a filing is answered (document 01, "Filing and questions"), by what is held: its outcome, and the mark of an accepted delivery.
pub mod Outcomes
pub mod Known
