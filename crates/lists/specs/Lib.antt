-- The definitions that the contracts of this crate cite beside those of `definitions` and of the steps.
pub mod Listed
