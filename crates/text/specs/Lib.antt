-- Text: numbers in decimal, fields and joined texts; how a text is read. `Clauses` serves the contracts of the code alone.
pub mod Decimal
pub mod Texts
pub mod Reading
pub mod Clauses
