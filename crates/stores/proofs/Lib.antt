-- Laws of numbers as bytes, and of lists that are stored one after the other.
pub mod Low
pub mod Stores
pub mod Copies
pub mod Laid
