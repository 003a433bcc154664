-- What is written into a lent list from a place on.
pub mod Appended
pub mod Writes
