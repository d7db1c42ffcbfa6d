-- The laws of formulas and of loops that the other crates' proofs cite.
pub mod Fields
pub mod Formulas
pub mod Visits
pub mod Loops
pub mod Written
