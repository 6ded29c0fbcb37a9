-- Theorems about the verdict on a delivery, the place of a refusal, and the live marks that are shown.
pub mod Accepted
pub mod Places
pub mod Marks
