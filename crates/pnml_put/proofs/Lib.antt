-- The laws that the proofs of `pnml_put` cite.
pub mod Puts
pub mod Digits
pub mod Pieces
pub mod Fits
pub mod Arcs
pub mod Texts
