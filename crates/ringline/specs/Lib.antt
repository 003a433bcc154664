-- The definitions that the contracts of this program's steps cite beside those of `definitions`.
pub mod Counts
pub mod Line
