-- Nets as drawings, and back.
pub mod Nets
pub mod Round
