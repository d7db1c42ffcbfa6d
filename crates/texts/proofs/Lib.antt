-- Laws on numbers as text, and on texts in a list.
pub mod Digits
pub mod Buffers
pub mod Line
