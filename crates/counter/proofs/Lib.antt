-- The laws of counter files: their verdict step by step and in plain words, the sums of states, that no byte is left unread, the model that is made, that it is
-- accepted, and its bytes in a buffer, first passage by what is made, the filing, number and place of a refusal, and the table of edges.
pub mod Records
pub mod Verdict
pub mod Places
pub mod Accepted
pub mod StateSums
pub mod Told
pub mod Made
pub mod Puts
pub mod Passage
pub mod Filing
pub mod Edges
