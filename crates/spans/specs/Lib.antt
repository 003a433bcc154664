-- The definitions that contracts cite of the laws of sums.
--     Elimination    the sets kept to tell whether a set is a sum of those taken, and what is left of a set
pub mod Elimination
