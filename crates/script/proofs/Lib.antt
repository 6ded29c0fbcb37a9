-- Scripts: the code's responses, pieces of an input, the theorem that a desk prints what a script does, which files are read, and scripts byte by byte.
pub mod Responses
pub mod Pieces
pub mod Printing
pub mod Unread
pub mod Edges
