-- The mission for every sequence of calls: the plain pair of files and its replies, a register through a list of calls, and the points 1 to 3
-- for it; the register as it was before request A.6, which replies the same; and a table of exchanges.
pub mod Plain
pub mod Run
pub mod FileOrder
pub mod Mission
pub mod ByExit
pub mod Edges
