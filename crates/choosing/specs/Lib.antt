-- The rings taken so far, and the sets kept to test the next.
pub mod Elimination
