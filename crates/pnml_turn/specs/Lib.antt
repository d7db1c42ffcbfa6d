-- The definitions that the contracts of `pnml_turn` cite.
pub mod Serving
