-- The definitions that the contract of the tree check cites: its answer, and what an accepted tree shows.
pub mod Outcomes
pub mod Demand
