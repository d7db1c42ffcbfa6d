-- The definitions that the contracts of `sample_labels` cite.
pub mod Files
