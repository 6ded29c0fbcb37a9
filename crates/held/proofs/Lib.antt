-- What the register holds: laws of its lists and of places in them, and what an accepted file becomes.
pub mod Listed
pub mod Bounds
pub mod Blocks
pub mod Becomes
