-- The report: the order of its lines, laws of counts, of a register's answers, of what is printed and of the self-test.
pub mod Order
pub mod Counts
pub mod Asked
pub mod Printed
pub mod SelfTest
