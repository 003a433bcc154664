-- The laws of this crate's steps.
--     Tried        the refusals as they are tried
--     Fitting      the bytes of an accepted table
--     Rowing       the rows, filled bond by bond
--     Doubling     pairs of atoms bonded twice, as the rows tell them
pub mod Tried
pub mod Fitting
pub mod Rowing
pub mod Doubling
