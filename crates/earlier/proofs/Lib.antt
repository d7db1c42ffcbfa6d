-- Tables without marks get the answers that they got.
pub mod Tables
pub mod Meaning
pub mod Check
pub mod Text
pub mod AsBefore
