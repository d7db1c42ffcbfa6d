-- The definitions that the contracts of `pnml_length` cite.
pub mod Count
