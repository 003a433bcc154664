-- The definitions that the contracts of this crate cite beside those of `definitions` and `walking`.
pub mod Going
