-- The definitions that the contracts of this crate cite beside those of `definitions` and `lent`.
pub mod Filled
pub mod Spaced
