-- The laws of nets as drawings, and back.
pub mod Marks
pub mod Members
pub mod Sets
pub mod Good
pub mod Entries
pub mod Records
pub mod Order
pub mod Lists
pub mod Fields
pub mod Again
pub mod Round
