-- The register: what each filing comes to, that a refused one leaves the register as it is, and which deliveries are marked.
pub mod Steps
pub mod Keeps
pub mod Marks
