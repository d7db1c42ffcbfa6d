-- The definitions that the contracts of `pnml_state` cite.
pub mod Serving
