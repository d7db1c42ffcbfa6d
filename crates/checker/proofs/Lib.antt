-- Laws of the tree check: as the code makes it, and what an accepted tree shows.
pub mod Admitting
pub mod Scans
pub mod Derived
pub mod Admitted
pub mod Accepted
pub mod Numbered
pub mod Demand
pub mod Cases
