-- The laws of sizes and of the order.
--     Sizing       how many sets have each size, and where the part of each size starts
--     Placing      a number put at its place among numbers in order, for any order
--     Ordering     a list ordered by size, part by part
--     Ranking      the rings put one after another into the parts of their sizes
--     Firsts       the first sets of a list, lent as a part of it
pub mod Sizing
pub mod Placing
pub mod Ordering
pub mod Ranking
pub mod Firsts
