-- What serves the proof of `tree_put`.
pub mod Serving
