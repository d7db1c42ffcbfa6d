-- The definitions that the contracts of `stores` cite.
pub mod Low
