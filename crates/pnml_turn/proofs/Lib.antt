-- Laws on the turns of the reader.
pub mod Turns
pub mod Openings
pub mod Steps
pub mod Loop
