-- The definitions that the contracts of `pnml_records` cite.
pub mod Records
