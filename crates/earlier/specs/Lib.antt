-- The definitions of before document 02's F-4, on the path that it changed, and what it asks: "a net with all bytes 0 gets the answers it got".
pub mod Tables
pub mod Meaning
pub mod Rules
pub mod Check
pub mod Text
pub mod AsBefore
