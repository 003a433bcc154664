-- The definitions that the contracts of this crate and of those above cite: what is told, as numbers.
pub mod Told
