-- The definitions that the contracts of `pnml_line` cite.
pub mod Line
