-- The tree that is written for a formula without until, and what serves the code's proof.
pub mod Evaluation
pub mod Trees
pub mod Chosen
pub mod Serving
