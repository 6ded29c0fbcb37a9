-- A refused filing writes nothing into the lent register: what tells the filings apart, what is said of them, the walk through their code, and each kind's types.
pub mod Lent
pub mod Untouched
pub mod Walk
pub mod Filed
pub mod Receipts
