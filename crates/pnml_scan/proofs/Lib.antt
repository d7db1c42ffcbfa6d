-- The laws that the proofs of `pnml_scan` cite.
pub mod Exits
pub mod Scan
pub mod Numbers
pub mod Parts
pub mod Marks
pub mod Arcs
