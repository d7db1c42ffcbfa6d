-- Laws of the tree that is written.
pub mod Steps
pub mod Places
pub mod Laid
