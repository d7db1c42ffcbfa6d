-- The definitions that the contracts of `pctl` cite, and the meaning of formulas.
pub mod Table
pub mod Formula
pub mod Meaning
pub mod Lower
pub mod Written
