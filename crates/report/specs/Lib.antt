-- What the program prints of two files, and its self-test. `Clauses` serves the contracts of the code alone.
pub mod Printed
pub mod SelfTest
pub mod Clauses
