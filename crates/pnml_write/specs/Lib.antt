-- The definitions that the contracts of `pnml_write` cite.
pub mod Answer
