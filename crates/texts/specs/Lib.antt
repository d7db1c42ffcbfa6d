-- Texts as bytes, numbers as text, and lines of them.
pub mod Text
pub mod Line
