-- The definitions that the contracts of this crate cite beside those of `definitions` and of the steps.
--     Tally     the rings counted by size, assembly by assembly
--     Counts    what is counted of a table
pub mod Tally
pub mod Counts
