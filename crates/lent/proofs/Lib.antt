-- The laws of lists that are written from a place on.
--     Appending    what is appended, and the invariants of those who append
--     Between      the items from one place up to another
--     Writing      what a writer writes
pub mod Appending
pub mod Between
pub mod Writing
