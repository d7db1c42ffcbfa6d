-- Theorems about the shape of PNML texts and the machine that reads them.
pub mod Scans
pub mod Numbers
pub mod Arcs
pub mod Complete
pub mod Sound
pub mod Viable
pub mod Exact
