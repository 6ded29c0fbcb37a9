-- What is known of a report on files that the system hands out.
pub mod Read
