-- The one answer of every check, and what "the first failure in the fixed order" means.
pub mod Reasons
pub mod Outcomes
pub mod Differences
pub mod Tests
