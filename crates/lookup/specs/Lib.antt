-- The definitions that the contracts of lookup cite.
pub mod Lookup
