-- The definitions that the contracts of reduced cite beside those of `definitions`.
pub mod Change
pub mod Picked
pub mod Reduces
