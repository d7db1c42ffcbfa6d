-- The definitions that the contracts of `pnml_put` cite.
pub mod Put
