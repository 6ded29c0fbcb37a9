-- The register (document 01, "Filing and questions"): the filings, merging and the questions on any value of it.
pub mod Filing
pub mod Merging
pub mod Questions
