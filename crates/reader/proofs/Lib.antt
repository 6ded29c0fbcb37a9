-- What a reader of a printout learns: the words of its lines, the files behind them, mission point 3 for them, and whole printouts.
pub mod Words
pub mod Filed
pub mod Reader
pub mod Edges
