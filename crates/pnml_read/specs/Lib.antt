-- The definitions that the contracts of `pnml_read` cite.
pub mod Answer
