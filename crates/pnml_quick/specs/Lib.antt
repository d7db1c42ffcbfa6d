-- The definitions that the contracts of `pnml_quick` cite.
pub mod Serving
