-- A desk as the code keeps it. `Clauses` serves the contracts of private functions alone.
pub mod Service
pub mod Clauses
