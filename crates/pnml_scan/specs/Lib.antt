-- The definitions that the contracts of `pnml_scan` cite.
pub mod Serving
